-- All are numbered from 1 where those that are left are numbered from the next one.
use Rattle.std.proofs.Common.{◌≡◌, ◌+◌, ◌↔◌, length}
use Rattle.hc_schema.specs.Tables.{AreNumbered}
use Rattle.hc_schema.proofs.checks.are_numbered.Given as goal

abbrev pub invariant-loop-index : goal.invariant-loop-index
invariant-loop-index l = record {
  same : AreNumbered l.table 1 l.indexes ↔ AreNumbered l.table l.n l.left;
  counted : l.n + length l.left ≡ 1 + length l.indexes;
}

abbrev pub decreases-loop-index : goal.decreases-loop-index
decreases-loop-index l = length l.left
