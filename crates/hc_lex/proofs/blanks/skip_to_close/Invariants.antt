-- No `*/` was read so far, and each turn takes a byte.
use Rattle.std.proofs.Common.{length}
use Rattle.hc_lex.proofs.Closes.{NoCloseSoFar}
use Rattle.hc_lex.proofs.blanks.skip_to_close.Given as goal

abbrev pub invariant-loop-first : goal.invariant-loop-first
invariant-loop-first l = NoCloseSoFar l.fn.bytes l.rest

abbrev pub decreases-loop-first : goal.decreases-loop-first
decreases-loop-first l = length l.rest
