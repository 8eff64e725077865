-- The entries so far are the row's own and those in the indexes so far.
use Rattle.std.proofs.Common.{◌≡◌, ◌∷◌, map, take}
use Rattle.hc_schema.specs.Cells.{row_entry, row_index_entry}
use Rattle.hc_schema.proofs.row.row_entries.Given as goal

abbrev pub invariant-loop-index : goal.invariant-loop-index
invariant-loop-index l = l.entries ≡ row_entry l.table l.rowid l.values ∷ map (row_index_entry l.rowid l.values) (take l.index-index l.table.indexes)
