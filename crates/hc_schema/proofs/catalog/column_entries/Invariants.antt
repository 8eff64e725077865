-- The entries so far, and those of the columns that are left from the next number on.
use Rattle.std.proofs.Common.{◌≡◌, ◌+◌, ◌++◌, drop}
use Rattle.hc_schema.specs.Cells.{column_entries}
use Rattle.hc_schema.proofs.catalog.column_entries.Given as goal

abbrev pub invariant-loop-column : goal.invariant-loop-column
invariant-loop-column l = record {
  number : l.k ≡ l.column-index + 1;
  entries : l.entries ++ column_entries l.table l.k (drop l.column-index l.columns) ≡ column_entries l.table 1 l.columns;
}
