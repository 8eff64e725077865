use Rattle.std.proofs.Common.{◌≡◌, ◌++◌, length}
use Rattle.hc_txn.proofs.laid.move_all.Given as goal

abbrev pub invariant-loop-cells : goal.invariant-loop-cells
invariant-loop-cells l = l.out.cells ++ l.cells.items ≡ l.fn.out.cells ++ l.fn.cells.items

abbrev pub decreases-loop-cells : goal.decreases-loop-cells
decreases-loop-cells l = length l.cells.items
