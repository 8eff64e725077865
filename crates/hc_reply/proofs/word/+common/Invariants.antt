-- The word gets shorter.
use Rattle.std.proofs.Common.{length}
use Rattle.hc_reply.proofs.word.+common.Given as goal

abbrev pub decreases-common : goal.decreases-common
decreases-common l = length l.word.now
