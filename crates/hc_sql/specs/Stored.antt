-- What is found in a database, and how rows and tables are put into it and taken out.
use Rattle.std.specs.Prelude.{ℕ, ℤ, List, [], ◌∷◌, map, nat_eq, nat_lt, int_lt, Option, Some, None, not, if◌then◌else◌}
use Rattle.std.specs.List.{filter}
use Rattle.std.specs.Ordering.{int_eq}
use Rattle.hc_schema.specs.declared.row.Row.{Row}
use Rattle.hc_schema.specs.declared.table.Table.{Table}
use Rattle.hc_schema.specs.declared.table.Index.{Index}
use Rattle.hc_schema.specs.Databases.{Database}
use Rattle.hc_schema.specs.Binding.Names.{same_name}

-- ---- tables and indexes

-- the table of this name
abbrev pub table_of : Database → List ℕ → Option Table
table_of [] name = None
table_of (f ∷ db) name = if same_name f.table.name name then Some f.table else table_of db name

abbrev pub tables_of : Database → List Table
tables_of db = map (λ f. f.table) db

-- the index of this name among some
abbrev pub index_called : List Index → List ℕ → Option Index
index_called [] name = None
index_called (index ∷ indexes) name = if same_name index.name name then Some index else index_called indexes name

-- an index with its table
pub record Owned : Type 0 where
  pub table : Table
  pub index : Index

abbrev pub or_owned : Table → Option Index → Option Owned → Option Owned
or_owned t None other = other
or_owned t (Some index) other = Some (record { table = t; index = index })

-- the index of this name
abbrev pub index_of : List Table → List ℕ → Option Owned
index_of [] name = None
index_of (t ∷ tables) name = or_owned t (index_called t.indexes name) (index_of tables name)

-- ---- rows

-- the rows of the table with this tree
abbrev pub rows_in : Database → ℕ → List Row
rows_in [] tree = []
rows_in (f ∷ db) tree = if nat_eq f.table.tree tree then f.rows else rows_in db tree

-- the row with this rowid
abbrev pub row_at : ℤ → List Row → Option Row
row_at rowid [] = None
row_at rowid (row ∷ rows) = if int_eq row.rowid rowid then Some row else row_at rowid rows

-- the greatest rowid, which is the last row's
abbrev pub last_rowid : List Row → Option ℤ
last_rowid [] = None
last_rowid (row ∷ []) = Some row.rowid
last_rowid (row ∷ other ∷ rows) = last_rowid (other ∷ rows)

-- rows with one put in by its rowid
abbrev pub with_row : Row → List Row → List Row
with_row new [] = new ∷ []
with_row new (row ∷ rows) = if int_lt row.rowid new.rowid then row ∷ with_row new rows else new ∷ row ∷ rows

-- rows but that of this rowid
abbrev pub without_row : ℤ → List Row → List Row
without_row rowid rows = filter (λ row. not (int_eq row.rowid rowid)) rows

-- other rows for the table with this tree
abbrev pub with_rows : ℕ → (List Row → List Row) → Database → Database
with_rows tree into [] = []
with_rows tree into (f ∷ db) =
    if nat_eq f.table.tree tree then record { table = f.table; rows = into f.rows } ∷ db else f ∷ with_rows tree into db

-- ---- tables put in, changed and taken out

-- a table without rows in its place by its tree
abbrev pub with_table : Table → Database → Database
with_table t [] = record { table = t; rows = [] } ∷ []
with_table t (f ∷ db) = if nat_lt f.table.tree t.tree then f ∷ with_table t db else record { table = t; rows = [] } ∷ f ∷ db

abbrev pub without_table : ℕ → Database → Database
without_table tree db = filter (λ f. not (nat_eq f.table.tree tree)) db

-- the table with other indexes
abbrev pub with_indexes : List Index → Table → Table
with_indexes indexes t = record { name = t.name; tree = t.tree; columns = t.columns; alias = t.alias; indexes = indexes }

-- other indexes for the table with this tree
abbrev pub change_indexes : ℕ → (List Index → List Index) → Database → Database
change_indexes tree into [] = []
change_indexes tree into (f ∷ db) =
    if nat_eq f.table.tree tree then record { table = with_indexes (into f.table.indexes) f.table; rows = f.rows } ∷ db
    else f ∷ change_indexes tree into db

abbrev pub without_index : ℕ → List Index → List Index
without_index tree indexes = filter (λ index. not (nat_eq index.tree tree)) indexes
