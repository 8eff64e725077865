use Rattle.std.proofs.Common.{◌≡◌, ◌++◌, length}
use Rattle.hc_txn.specs.Laid.{cells_below, cells_from}
use Rattle.hc_txn.proofs.laid.move_below.Given as goal

abbrev pub invariant-loop-cells : goal.invariant-loop-cells
invariant-loop-cells l = record {
  moved : l.out.cells ++ cells_below l.key l.cells.items ≡ l.fn.out.cells ++ cells_below l.key l.fn.cells.items;
  left : cells_from l.key l.cells.items ≡ cells_from l.key l.fn.cells.items;
}

abbrev pub decreases-loop-cells : goal.decreases-loop-cells
decreases-loop-cells l = length l.cells.items
