-- No index so far has a first column that is pinned.
use Rattle.std.proofs.Common.{◌≡◌, ◌+◌, length}
use Rattle.hc_schema.specs.Paths.{index_path}
use Rattle.hc_plan.proofs.planning.index_path.Given as goal

abbrev pub invariant-loop-first : goal.invariant-loop-first
invariant-loop-first l =
    (index_path 0 l.offset l.conjuncts l.indexes ≡ index_path l.index l.offset l.conjuncts l.left)
    × (l.index + length l.left ≡ length l.indexes)

abbrev pub decreases-loop-first : goal.decreases-loop-first
decreases-loop-first l = length l.left
