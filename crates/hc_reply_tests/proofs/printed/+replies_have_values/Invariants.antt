-- The list gets shorter.
use Rattle.std.proofs.Common.{length}
use Rattle.hc_reply_tests.proofs.printed.+replies_have_values.Given as goal

abbrev pub decreases-replies_have_values : goal.decreases-replies_have_values
decreases-replies_have_values l = length l.all.now
