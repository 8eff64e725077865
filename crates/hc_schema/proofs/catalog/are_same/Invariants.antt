-- The lists are the same where what is left of them is.
use Rattle.std.proofs.Common.{◌≡◌, ◌↔◌, length}
use Rattle.hc_schema.proofs.catalog.are_same.Given as goal

abbrev pub invariant-loop-cell : goal.invariant-loop-cell
invariant-loop-cell l = (l.cells ≡ l.others) ↔ (l.left ≡ l.right)

abbrev pub decreases-loop-cell : goal.decreases-loop-cell
decreases-loop-cell l = length l.left
