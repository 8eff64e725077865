-- All are indexes where those that are left are.
use Rattle.std.proofs.Common.{◌↔◌, length}
use Rattle.std.specs.List.{AllByRecursion}
use Rattle.hc_schema.specs.Tables.{IsIndex}
use Rattle.hc_schema.proofs.checks.are_indexes.Given as goal

abbrev pub invariant-loop-index : goal.invariant-loop-index
invariant-loop-index l = AllByRecursion (IsIndex l.count) l.indexes ↔ AllByRecursion (IsIndex l.count) l.left

abbrev pub decreases-loop-index : goal.decreases-loop-index
decreases-loop-index l = length l.left
