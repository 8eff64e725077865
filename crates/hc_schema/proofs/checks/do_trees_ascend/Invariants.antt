-- All ascend where those that are left ascend from the last one.
use Rattle.std.proofs.Common.{◌↔◌, length, map}
use Rattle.hc_schema.specs.Tables.{AscendFrom}
use Rattle.hc_schema.proofs.checks.do_trees_ascend.Given as goal

abbrev pub invariant-loop-index : goal.invariant-loop-index
invariant-loop-index l = AscendFrom l.tree (map (λ index. index.tree) l.indexes) ↔ AscendFrom l.low (map (λ index. index.tree) l.left)

abbrev pub decreases-loop-index : goal.decreases-loop-index
decreases-loop-index l = length l.left
