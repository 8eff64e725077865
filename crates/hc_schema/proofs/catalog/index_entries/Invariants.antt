-- The entries so far are those of the indexes so far.
use Rattle.std.proofs.Common.{◌≡◌, map, take}
use Rattle.hc_schema.specs.Cells.{index_entry}
use Rattle.hc_schema.proofs.catalog.index_entries.Given as goal

abbrev pub invariant-loop-index : goal.invariant-loop-index
invariant-loop-index l = l.entries ≡ map (index_entry l.table) (take l.index-index l.indexes)
