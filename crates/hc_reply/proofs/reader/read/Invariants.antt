-- The lines so far were read, and led to what is known.
use Rattle.std.proofs.Common.{length}
use Rattle.hc_reply.proofs.Outputs.{IsRead}
use Rattle.hc_reply.proofs.reader.read.Given as goal

abbrev pub invariant-loop-rest : goal.invariant-loop-rest
invariant-loop-rest l = IsRead l.bytes l.rest l.state

abbrev pub decreases-loop-rest : goal.decreases-loop-rest
decreases-loop-rest l = length l.rest
