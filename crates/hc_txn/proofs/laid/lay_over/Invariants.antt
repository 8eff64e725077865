use Rattle.std.proofs.Common.{◌≡◌, ◌++◌}
use Rattle.std.specs.Vec.Iter.{into_iter_items}
use Rattle.hc_txn.specs.Laid.{laid}
use Rattle.hc_txn.proofs.laid.lay_over.Given as goal

abbrev pub invariant-loop-write : goal.invariant-loop-write
invariant-loop-write l = l.out.cells ++ laid (into_iter_items l.write-iterator) l.cells.items ≡ l.fn.out.cells ++ laid l.fn.writes.items l.fn.part.cells
