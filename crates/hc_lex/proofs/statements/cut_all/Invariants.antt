-- The statements so far are those of what was read, and each turn takes a byte at least.
use Rattle.std.proofs.Common.{length}
use Rattle.hc_lex.proofs.SpansSoFar.{SpansSoFar}
use Rattle.hc_lex.proofs.statements.cut_all.Given as goal

abbrev pub invariant-loop-first : goal.invariant-loop-first
invariant-loop-first l = SpansSoFar l.fn.bytes l.rest l.spans.items l.unfinished

abbrev pub decreases-loop-first : goal.decreases-loop-first
decreases-loop-first l = length l.rest
