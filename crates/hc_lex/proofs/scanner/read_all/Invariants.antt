-- The tokens so far are those up to a place of the text, and each turn goes on from there.
use Rattle.std.proofs.Common.{◌-◌, length}
use Rattle.hc_lex.specs.Reading.{HasTokensBetween}
use Rattle.hc_lex.proofs.scanner.read_all.Given as goal

abbrev pub invariant-loop-token : goal.invariant-loop-token
invariant-loop-token l = HasTokensBetween l.text 0 l.at l.found.items

abbrev pub decreases-loop-token : goal.decreases-loop-token
decreases-loop-token l = length l.text - l.at
