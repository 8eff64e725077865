-- What a database is: its tables in order of tree numbers and, for each table, its rows in order of rowids. It has no
-- index entries and no versions: those are the store's.
use Rattle.std.specs.Prelude.{◌≡◌, ◌≢◌, ℕ, ◌<◌, ◌++◌, false, ℤ, ◌<ℤ◌, FitsSigned, List, [], ◌∷◌, map, flat_map, length, ◌↔◌, Option, Some, None, if◌then◌else◌}
use Rattle.std.specs.Int.{w64}
use Rattle.std.specs.List.{AllByRecursion}
use Rattle.hc_value.specs.declared.value.Value.{Value}
use Rattle.hc_value.specs.declared.value.Value.TheVariants.{Null, Int}
use Rattle.hc_value.specs.Order.{class_of}
use Rattle.hc_value.specs.Values.{IsValue}
use Rattle.hc_range.specs.Order.{is_below}
use Rattle.hc_base.specs.Lookup.{Among}
use Rattle.hc_core.specs.declared.cells.Cell.{Cell}
use Rattle.hc_schema.specs.declared.table.Table.{Table}
use Rattle.hc_schema.specs.declared.table.Column.{Column}
use Rattle.hc_schema.specs.declared.table.Index.{Index}
use Rattle.hc_schema.specs.declared.table.IndexKind.TheVariants.{Plain}
use Rattle.hc_schema.specs.Tables.{Pairwise, NamesDiffer, AscendFrom, AreDistinct, index_names}
use Rattle.hc_schema.specs.declared.entry.Entry.{Entry}
use Rattle.hc_schema.specs.declared.row.Row.{Row}
use Rattle.hc_schema.specs.Cells.{cell_of, IsShort, IsTable, table_entries, name_entries, row_entry, row_entries, value_at, indexed_values}

-- a table with its rows
pub record Filled : Type 0 where
  pub table : Table
  pub rows : List Row

abbrev pub Database : Type 0
Database = List Filled

-- the database at the start
abbrev pub empty : Database
empty = []

-- ---- rows

-- a value that the column may have: NULL, unless the column refuses it, or a value of the column's class
abbrev pub FitsColumn : Column → Value → Type 0
FitsColumn column Null = column.not_null ≡ false
FitsColumn column v = class_of v ≡ column.class

-- the alias column's value is the rowid
abbrev pub HasRowid : Option ℕ → Row → Type 0
HasRowid None row = Unit {0}
HasRowid (Some k) row = value_at row.values k ≡ Int row.rowid

pub record IsRow (t : Table) (row : Row) : Type 0 where
  pub rowid : FitsSigned w64 row.rowid
  pub values : AllByRecursion IsValue row.values
  pub fit : Pairwise FitsColumn t.columns row.values
  pub alias : HasRowid t.alias row
  pub short : AllByRecursion IsShort (row_entries t row.rowid row.values)

-- a row that the table may have, and its own cell
abbrev pub IsRowCell : Table → Cell → Row → Type 0
IsRowCell t cell row = IsRow t row × (cell ≡ cell_of (row_entry t row.rowid row.values))

-- there is a value in the alias column's place
abbrev pub IsSized : Option ℕ → List Value → Type 0
IsSized None values = Unit {0}
IsSized (Some k) values = k < length values

-- rowids that ascend, so each stands once
abbrev pub IsAboveNone : ℤ → List Row → Type 0
IsAboveNone rowid [] = Unit {0}
IsAboveNone rowid (row ∷ rows) = (rowid <ℤ row.rowid) × IsAboveNone rowid rows

abbrev pub RowidsAscend : List Row → Type 0
RowidsAscend [] = Unit {0}
RowidsAscend (row ∷ rows) = IsAboveNone row.rowid rows × RowidsAscend rows

-- Two rows that an index takes for different: unless it is plain, they differ in one of its columns, or one of the
-- values is NULL.
abbrev pub DifferIn : Index → Row → Row → Type 0
DifferIn index row other = index.kind ≢ Plain → indexed_values index row.values ≡ indexed_values index other.values → Among Null (indexed_values index row.values)

abbrev pub AreUnique : Index → List Row → Type 0
AreUnique index [] = Unit {0}
AreUnique index (row ∷ rows) = AllByRecursion (DifferIn index row) rows × AreUnique index rows

-- a table of a database with its rows
pub record IsFilled (filled : Filled) : Type 0 where
  pub table : IsTable filled.table
  pub rows : AllByRecursion (IsRow filled.table) filled.rows
  pub ascend : RowidsAscend filled.rows
  pub unique : AllByRecursion (λ index. AreUnique index filled.rows) filled.table.indexes

-- ---- databases

-- the names of all tables and indexes
abbrev pub names_of : Database → List (List ℕ)
names_of db = flat_map (λ filled. filled.table.name ∷ index_names filled.table.indexes) db

-- the numbers of all trees
abbrev pub trees_of : Database → List ℕ
trees_of db = flat_map (λ filled. filled.table.tree ∷ map (λ index. index.tree) filled.table.indexes) db

pub record IsDatabase (db : Database) : Type 0 where
  pub filled : AllByRecursion IsFilled db
  -- tables are in order of tree numbers, of which none stands twice
  pub ascend : AscendFrom 0 (map (λ filled. filled.table.tree) db)
  pub trees : AreDistinct (trees_of db)
  -- tables and indexes share one name space
  pub names : NamesDiffer (names_of db)

-- ---- the cells of a database

-- a table's entries in the catalog, and those of its rows
abbrev pub filled_entries : Filled → List Entry
filled_entries filled = table_entries filled.table ++ (name_entries filled.table ++ flat_map (λ row. row_entries filled.table row.rowid row.values) filled.rows)

abbrev pub entries_of : Database → List Entry
entries_of db = flat_map filled_entries db

-- a list of cells with one more put in by the order of keys
abbrev pub with_cell : Cell → List Cell → List Cell
with_cell cell [] = cell ∷ []
with_cell cell (other ∷ cells) = if is_below other.key cell.key then other ∷ with_cell cell cells else cell ∷ other ∷ cells

-- the cells in ascending order of keys
abbrev pub by_key : List Cell → List Cell
by_key [] = []
by_key (cell ∷ cells) = with_cell cell (by_key cells)

abbrev pub cells_of : Database → List Cell
cells_of db = by_key (map cell_of (entries_of db))

-- a database has a record at a key
abbrev pub HasCell : Database → Cell → Type 0
HasCell db cell = Among cell (cells_of db)

-- two databases agree on a set of keys: their cells are the same there
abbrev pub Agree : (List ℕ → Type 0) → Database → Database → Type 0
Agree Keys db other = (cell : Cell) → Keys cell.key → HasCell db cell ↔ HasCell other cell
