-- The database: the rows of the one table `t(id, v)`, which is there from the start and empty, and its cells.
use Rattle.std.specs.Prelude.{ℕ, ℤ, ◌<ℤ◌, FitsSigned, true, false, List, [], ◌∷◌, Option, None, Some, flat_map, int_lt, if◌then◌else◌, codes}
use Rattle.std.specs.Int.{w64}
use Rattle.std.specs.Ordering.{int_eq}
use Rattle.hc_value.specs.declared.storage.Class.TheVariants as class
use Rattle.hc_value.specs.declared.value.Value.TheVariants.{Int, Null}
use Rattle.hc_key.specs.Keys.{key_bytes}
use Rattle.hc_record.specs.Record.{encoding}
use Rattle.hc_range.specs.declared.range.Range.{Range}
use Rattle.hc_range.specs.Order.{successor}
use Rattle.hc_core.specs.declared.cells.Cell.{Cell}
use Rattle.hc_schema.specs.declared.table.Table.{Table}
use Rattle.hc_schema.specs.Cells.{row_cells}

-- the rows (id, v)
abbrev pub Rows : Type 0
Rows = List (ℤ × ℤ)

-- an id is below that of each row
abbrev pub IsBelowEachRow : ℤ → Rows → Type 0
IsBelowEachRow id [] = Unit {0}
IsBelowEachRow id (row ∷ rows) = (id <ℤ row.0) × IsBelowEachRow id rows

-- ids and values are integers of 64 bits, and ids ascend, so each is there once
abbrev pub AreRows : Rows → Type 0
AreRows [] = Unit {0}
AreRows (row ∷ rows) = FitsSigned w64 row.0 × FitsSigned w64 row.1 × IsBelowEachRow row.0 rows × AreRows rows

-- the value in the row with an id, where there is one
abbrev pub value_of : Rows → ℤ → Option ℤ
value_of [] id = None
value_of (row ∷ rows) id = if int_eq row.0 id then Some row.1 else value_of rows id

-- the rows with (id, v) in its place, and not the row that had this id
abbrev pub with_value : ℤ → ℤ → Rows → Rows
with_value id v [] = (id, v) ∷ []
with_value id v (row ∷ rows) =
    if int_lt row.0 id then row ∷ with_value id v rows
    else (if int_lt id row.0 then (id, v) ∷ row ∷ rows else (id, v) ∷ rows)

-- ---- cells

-- the table: its tree has the number 1, and its first column is the rowid
abbrev pub the_table : Table
the_table = record {
  name = codes "t";
  tree = 1;
  columns = record { name = codes "id"; class = class.Int; not_null = true } ∷ record { name = codes "v"; class = class.Int; not_null = false } ∷ [];
  alias = Some 0;
  indexes = [];
}

-- the cells of all rows: one for each, and none of a catalog
abbrev pub cells_of_rows : Rows → List Cell
cells_of_rows rows = flat_map (λ (row : ℤ × ℤ). row_cells the_table row.0 (Int row.0 ∷ Int row.1 ∷ [])) rows

-- the key of the row with an id, and the range that has no other key
abbrev pub row_key : ℤ → List ℕ
row_key id = key_bytes the_table.tree (Int id ∷ [])

abbrev pub row_range : ℤ → Range
row_range id = record { lo = row_key id; hi = Some (successor (row_key id)) }

-- the record of a row with a value: its columns, of which the rowid is NULL there
abbrev pub row_record : ℤ → List ℕ
row_record v = encoding (Null ∷ Int v ∷ [])

-- what is at the key of a row by its value
abbrev pub record_of : Option ℤ → Option (List ℕ)
record_of None = None
record_of (Some v) = Some (row_record v)
