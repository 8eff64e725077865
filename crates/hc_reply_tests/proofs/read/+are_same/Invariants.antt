-- Each call has one reply less.
use Rattle.std.proofs.Common.{length}
use Rattle.hc_reply_tests.proofs.read.+are_same.Given as goal

abbrev pub decreases-are_same : goal.decreases-are_same
decreases-are_same l = length l.found.now
