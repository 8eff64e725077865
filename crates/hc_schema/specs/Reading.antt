-- What is read of records and keys of the catalog, as far as it has to be said: whatever they stand for is found.
-- Whether the cells are those of what was found is tested afterwards.
use Rattle.std.specs.Prelude.{◌≡◌, ℕ, ◌+◌, ◌^◌, ◌<◌, List, [], ◌∷◌, length, Option, Some, None}
use Rattle.std.specs.List.{AllByRecursion}
use Rattle.hc_value.specs.declared.value.Value.{Value}
use Rattle.hc_value.specs.Values.{AreValues}
use Rattle.hc_record.specs.Record.{encoding}
use Rattle.hc_key.specs.Keys.{key_bytes}
use Rattle.hc_core.specs.declared.cells.Cell.{Cell}
use Rattle.hc_schema.specs.declared.table.Table.{Table}
use Rattle.hc_schema.specs.declared.table.Column.{Column}
use Rattle.hc_schema.specs.declared.table.Index.{Index}
use Rattle.hc_schema.specs.declared.reading.Head.{Head}
use Rattle.hc_schema.specs.Tables.{Pairwise, IsColumn}
use Rattle.hc_schema.specs.Cells.{number, table_values, column_values, index_values}

-- bytes that are the record of these values, and short enough to be read
pub record IsRecord (list : List Value) (rec : List ℕ) : Type 0 where
  pub values : AreValues list
  pub short : length (encoding list) < 2 ^ 32
  pub bytes : rec ≡ encoding list

-- what a table's own record tells
abbrev pub head_values : Head → List Value
head_values head = table_values head.name head.tree head.count head.alias

-- a column's number, which has 32 bits also where it is counted from 1
abbrev pub IsColumnNumber : ℕ → Type 0
IsColumnNumber k = k + 1 < 2 ^ 32

abbrev pub IsAliasNumber : Option ℕ → Type 0
IsAliasNumber None = Unit {0}
IsAliasNumber (Some k) = IsColumnNumber k

pub record IsHead (head : Head) : Type 0 where
  pub tree : head.tree < 2 ^ 32
  pub count : head.count < 2 ^ 32
  pub alias : IsAliasNumber head.alias

-- a cell of an index in its table's range
pub record IsIndexCell (cell : Cell) (index : Index) : Type 0 where
  pub tree : index.tree < 2 ^ 32
  pub columns : AllByRecursion IsColumnNumber index.columns
  pub name : Value
  pub key : cell.key ≡ key_bytes 0 (name ∷ number index.tree ∷ [])
  pub rec : IsRecord (index_values index) cell.rec

-- a cell of a column in its table's range
abbrev pub IsColumnCell : Cell → Column → Type 0
IsColumnCell cell column = IsColumn column × IsRecord (column_values column) cell.rec

-- a value that is the number of a column
abbrev pub IsNumberOf : Value → ℕ → Type 0
IsNumberOf value k = IsColumnNumber k × (value ≡ number (k + 1))

-- the cells after a table's own, as those of its columns and its indexes
pub record IsRest (head : Head) (before after : List Cell) (t : Table) : Type 0 where
  pub name : head.name ≡ t.name
  pub tree : head.tree ≡ t.tree
  pub alias : head.alias ≡ t.alias
  pub columns : Pairwise IsColumnCell before t.columns
  pub indexes : Pairwise IsIndexCell after t.indexes
