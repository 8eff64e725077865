-- Which entries are short.
use Rattle.std.proofs.Common.{◌<◌, ◌^◌, ℤ, List, [], ◌∷◌, map, length, arith}
use Rattle.std.specs.List.{AllByRecursion}
use Rattle.hc_value.specs.declared.value.Value.{Value}
use Rattle.hc_record.specs.Record.{encoding}
use Rattle.hc_record.specs.Record as rec
use Rattle.hc_record.specs.Varint as var
use Rattle.hc_schema.specs.declared.table.Index.{Index}
use Rattle.hc_schema.specs.Cells.{IsShort, row_index_entry}

-- the record of no values is one byte
empty_short : length (encoding []) < 2 ^ 32
unfolding encoding rec.header_len var.varint_len var.varint
empty_short = omega arith

-- entries of rows in indexes have no values
pub index_entries_short : (rowid : ℤ) (values : List Value) (indexes : List Index) → AllByRecursion IsShort (map (row_index_entry rowid values) indexes)
index_entries_short rowid values [] = tt
index_entries_short rowid values (index ∷ indexes) = (empty_short, index_entries_short rowid values indexes)
