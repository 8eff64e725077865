-- Spaces and comments so far, and each turn takes a byte at least.
use Rattle.std.proofs.Common.{drop, length}
use Rattle.hc_lex.specs.Reading.{AreBlanks}
use Rattle.hc_lex.proofs.scanner.skip_blanks.Given as goal

abbrev pub invariant-loop-after : goal.invariant-loop-after
invariant-loop-after l = AreBlanks (drop l.from l.text) l.rest

abbrev pub decreases-loop-after : goal.decreases-loop-after
decreases-loop-after l = length l.rest
