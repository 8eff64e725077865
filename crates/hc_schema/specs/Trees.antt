-- The numbers of trees in the catalog, and the next one.
use Rattle.std.specs.Prelude.{◌≡◌, ◌≢◌, ◌<◌, length, ◌⊎◌, ℕ, ◌+◌, ◌-◌, ◌^◌, max, pos, List, [], ◌∷◌, ◌++◌, map, flat_map, ◌↔◌, Option, Some, None, MatchOption}
use Rattle.std.specs.List.{AllByRecursion}
use Rattle.hc_value.specs.declared.value.Value.{Value}
use Rattle.hc_base.specs.Lookup.{Among}
use Rattle.hc_core.specs.declared.cells.Cell.{Cell}
use Rattle.hc_schema.specs.declared.entry.Entry.{Entry}
use Rattle.hc_schema.specs.declared.table.Table.{Table}
use Rattle.hc_schema.specs.declared.table.Index.{Index}
use Rattle.hc_value.specs.Values.{AreValues}
use Rattle.hc_record.specs.Record.{encoding}
use Rattle.hc_record.specs.Places.{integer_at}
use Rattle.hc_key.specs.Keys.{key_bytes}
use Rattle.hc_schema.specs.Cells.{number, IsTable, cell_of, table_entries, name_entries}

-- the entries of tables in the catalog
abbrev pub catalog_entries : List Table → List Entry
catalog_entries tables = flat_map (λ t. table_entries t ++ name_entries t) tables

-- the cells are those of these tables in the catalog, in whatever order
pub record IsCatalogOf (all : List Table) (given : List Cell) : Type 0 where
  pub tables : AllByRecursion IsTable all
  pub cells : (cell : Cell) → Among cell given ↔ Among cell (map cell_of (catalog_entries all))

-- the numbers of their trees
abbrev pub tree_numbers : List Table → List ℕ
tree_numbers tables = flat_map (λ t. t.tree ∷ map (λ (index : Index). index.tree) t.indexes) tables

-- the greatest number of a list, or 0
abbrev pub greatest : List ℕ → ℕ
greatest [] = 0
greatest (n ∷ ns) = max n (greatest ns)

-- the number after the greatest, if it has 32 bits
abbrev pub IsNext : List ℕ → Option ℕ → Type 0
IsNext numbers next = MatchOption next (greatest numbers ≡ 2 ^ 32 - 1) (λ n. n ≡ greatest numbers + 1)

-- ---- which cells tell the number of a tree

-- the integer at place 1, or where there is none, at place 2
abbrev pub Tells : List Value → ℕ → Type 0
Tells values n = (integer_at values 1 ≡ Some (pos n)) ⊎ ((integer_at values 1 ≡ None) × (integer_at values 2 ≡ Some (pos n)))

-- the values of a record that tells a number of 32 bits
pub record IsTold (values : List Value) (n : ℕ) : Type 0 where
  pub are : AreValues values
  pub short : length (encoding values) < 2 ^ 32
  pub fits : n < 2 ^ 32
  pub tells : Tells values n

-- An entry of the catalog whose key ends with 0, and whose record tells a number; or one that tells none, whose key ends with
-- another number. The number of none is 0.
pub record IsTelling (e : Entry) (n : ℕ) : Type 0 where
  pub front : List Value
  pub last : ℕ
  pub fits : last < 2 ^ 63
  pub key : key_bytes e.tree e.key ≡ key_bytes 0 (front ++ number last ∷ [])
  pub told : ((last ≢ 0) × (n ≡ 0)) ⊎ ((last ≡ 0) × IsTold e.values n)
