use Rattle.std.proofs.Common.{◌≡◌, ◌++◌, length}
use Rattle.hc_txn.proofs.laid.queue_of.Given as goal

abbrev pub invariant-loop-cell : goal.invariant-loop-cell
invariant-loop-cell l = l.cells ++ l.queue.items ≡ l.fn.part.cells

abbrev pub decreases-loop-cell : goal.decreases-loop-cell
decreases-loop-cell l = length l.cells
