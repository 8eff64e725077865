-- What was read is within the quotes, and each turn takes a byte at least.
use Rattle.std.proofs.Common.{length}
use Rattle.hc_lex.proofs.Quoted.{QuotedSoFar}
use Rattle.hc_lex.proofs.quotes.skip_quoted.Given as goal

abbrev pub invariant-loop-first : goal.invariant-loop-first
invariant-loop-first l = QuotedSoFar l.quote l.fn.bytes l.rest

abbrev pub decreases-loop-first : goal.decreases-loop-first
decreases-loop-first l = length l.rest
