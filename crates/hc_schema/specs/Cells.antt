-- The cells of tables and rows: which key and which record stand for what. An entry is a cell before it is written:
-- the tree, the values of its key and the values of its record.
--
--   cell            tree  key                        record
--   table           0     name, 0                    name, tree, number of columns, number of the alias column or 0
--   column k        0     table, 0, k                name, class, 1 where it refuses NULL, else 0
--   index           0     table, tree                name, kind, the numbers of its columns
--   name of index   0     index, 0                   NULL, table, tree
--   row             tree  rowid                      the columns, the alias column as NULL
--   row in index    tree  the index's columns, rowid nothing
--
-- Names in keys have ASCII letters in lower case, those in records are as they were created. Columns are counted
-- from 1 in cells, and from 0 in tables. This form is the engine's own.
use Rattle.std.specs.Prelude.{ℕ, ◌+◌, ◌-◌, ◌^◌, ◌<◌, min, Bool, true, false, ℤ, pos, List, [], ◌∷◌, ◌++◌, length, map, slice_index_or, slice_set, Option, Some, None}
use Rattle.std.specs.List.{AllByRecursion}
use Rattle.std.specs.Str.{str_to_ascii_lowercase}
use Rattle.hc_range.specs.declared.range.Range.{Range}
use Rattle.hc_value.specs.declared.storage.Class.{Class}
use Rattle.hc_value.specs.declared.storage.Class.TheVariants as class
use Rattle.hc_value.specs.declared.value.Value.{Value}
use Rattle.hc_value.specs.declared.value.Value.TheVariants.{Null, Int, Text}
use Rattle.hc_key.specs.Keys.{key_bytes}
use Rattle.hc_key.specs.Laws.{range_of}
use Rattle.hc_record.specs.Record.{encoding}
use Rattle.hc_core.specs.declared.cells.Cell.{Cell}
use Rattle.hc_schema.specs.declared.entry.Entry.{Entry}
use Rattle.hc_schema.specs.declared.table.Table.{Table}
use Rattle.hc_schema.specs.declared.table.Column.{Column}
use Rattle.hc_schema.specs.declared.table.Index.{Index}
use Rattle.hc_schema.specs.declared.table.IndexKind.{IndexKind}
use Rattle.hc_schema.specs.declared.table.IndexKind.TheVariants.{Plain, Unique, UniqueRule, Primary}
use Rattle.hc_schema.specs.Tables.{IsWellFormed}

-- the cell of an entry
abbrev pub cell_of : Entry → Cell
cell_of e = record { key = key_bytes e.tree e.key; rec = encoding e.values }

-- an entry whose record is short enough to be read
abbrev pub IsShort : Entry → Type 0
IsShort e = length (encoding e.values) < 2 ^ 32

-- how many bytes the key and the record of an entry have together, up to the greatest number of 64 bits
abbrev pub entry_len : Entry → ℕ
entry_len e = min (length (key_bytes e.tree e.key) + length (encoding e.values)) (2 ^ 64 - 1)

-- ---- numbers and names in cells

abbrev pub number : ℕ → Value
number n = Int (pos n)

-- a name in a key: the same for names that are the same
abbrev pub key_name : List ℕ → Value
key_name name = Text (str_to_ascii_lowercase name)

abbrev pub class_number : Class → ℕ
class_number class.Int = 1
class_number class.Text = 2
class_number class.Blob = 3
class_number class.Null = 0

abbrev pub flag_number : Bool → ℕ
flag_number false = 0
flag_number true = 1

abbrev pub kind_number : IndexKind → ℕ
kind_number Plain = 0
kind_number Unique = 1
kind_number UniqueRule = 2
kind_number Primary = 3

abbrev pub alias_number : Option ℕ → ℕ
alias_number None = 0
alias_number (Some k) = k + 1

-- ---- the records of the catalog

abbrev pub table_values : List ℕ → ℕ → ℕ → Option ℕ → List Value
table_values name tree count alias = Text name ∷ number tree ∷ number count ∷ number (alias_number alias) ∷ []

abbrev pub column_values : Column → List Value
column_values column = Text column.name ∷ number (class_number column.class) ∷ number (flag_number column.not_null) ∷ []

abbrev pub index_values : Index → List Value
index_values index = Text index.name ∷ number (kind_number index.kind) ∷ map (λ k. number (k + 1)) index.columns

-- ---- the entries of a table

abbrev pub table_entry : Table → Entry
table_entry t = record { tree = 0; key = key_name t.name ∷ number 0 ∷ []; values = table_values t.name t.tree (length t.columns) t.alias }

abbrev pub column_entry : List ℕ → ℕ → Column → Entry
column_entry table k column = record { tree = 0; key = key_name table ∷ number 0 ∷ number k ∷ []; values = column_values column }

-- the columns from number k on
abbrev pub column_entries : List ℕ → ℕ → List Column → List Entry
column_entries table k [] = []
column_entries table k (column ∷ columns) = column_entry table k column ∷ column_entries table (k + 1) columns

abbrev pub index_entry : List ℕ → Index → Entry
index_entry table index = record { tree = 0; key = key_name table ∷ number index.tree ∷ []; values = index_values index }

abbrev pub index_name_entry : List ℕ → Index → Entry
index_name_entry table index = record { tree = 0; key = key_name index.name ∷ number 0 ∷ []; values = Null ∷ Text table ∷ number index.tree ∷ [] }

-- the entries in the catalog range of a table, in ascending order of keys
abbrev pub table_entries : Table → List Entry
table_entries t = table_entry t ∷ (column_entries t.name 1 t.columns ++ map (index_entry t.name) t.indexes)

-- the names of its indexes, which are in ranges of their own
abbrev pub name_entries : Table → List Entry
name_entries t = map (index_name_entry t.name) t.indexes

-- the cells in the catalog range of a table
abbrev pub table_cells : Table → List Cell
table_cells t = map cell_of (table_entries t)

-- the cells of the names of its indexes
abbrev pub name_cells : Table → List Cell
name_cells t = map cell_of (name_entries t)

-- A table that some database has: it is well-formed, and each record of its catalog cells is short enough to be
-- read. No other limit is set to its names.
pub record IsTable (t : Table) : Type 0 where
  pub form : IsWellFormed t
  pub short : AllByRecursion IsShort (table_entries t)
  pub short_names : AllByRecursion IsShort (name_entries t)

-- ---- the entries of a row

-- the value of column k
abbrev pub value_at : List Value → ℕ → Value
value_at values k = slice_index_or values k Null

-- the values that a row's record has: the alias column's is in the key alone
abbrev pub stored_values : Option ℕ → List Value → List Value
stored_values None values = values
stored_values (Some k) values = slice_set values k Null

abbrev pub row_entry : Table → ℤ → List Value → Entry
row_entry t rowid values = record { tree = t.tree; key = Int rowid ∷ []; values = stored_values t.alias values }

-- the values of an index's columns
abbrev pub indexed_values : Index → List Value → List Value
indexed_values index values = map (value_at values) index.columns

abbrev pub row_index_entry : ℤ → List Value → Index → Entry
row_index_entry rowid values index = record { tree = index.tree; key = indexed_values index values ++ Int rowid ∷ []; values = [] }

-- a row's own entry, and then those in the indexes by creation
abbrev pub row_entries : Table → ℤ → List Value → List Entry
row_entries t rowid values = row_entry t rowid values ∷ map (row_index_entry rowid values) t.indexes

abbrev pub row_cells : Table → ℤ → List Value → List Cell
row_cells t rowid values = map cell_of (row_entries t rowid values)

-- ---- ranges of keys

-- the catalog range of a name, and that of the whole catalog
abbrev pub catalog_range : List ℕ → Range
catalog_range name = range_of 0 (key_name name ∷ [])

abbrev pub whole_catalog : Range
whole_catalog = range_of 0 []

-- the rows of a table or of an index, and those of an index whose first columns have these values
abbrev pub tree_range : ℕ → Range
tree_range tree = range_of tree []

abbrev pub value_range : ℕ → List Value → Range
value_range tree values = range_of tree values
