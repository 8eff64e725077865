-- What a table is: the facts that hold of each table of a database. Names are those of SQL, after
-- https://www.sqlite.org/lang_createtable.html and https://www.sqlite.org/fileformat2.html, "Representation Of SQL Indices" ("sqlite_autoindex_TABLE_N").
use Rattle.std.specs.Prelude.{◌≡◌, ◌≢◌, ℕ, ◌+◌, ◌^◌, ◌<◌, ◌≤◌, Bool, true, false, IsTrue, IsFalse, List, [], ◌∷◌, ◌++◌, length, map, take, count_by, slice_get, Option, Some, None, MatchOption, IsUtf8, codes, decimal}
use Rattle.std.specs.List.{AllByRecursion}
use Rattle.hc_text.specs.Names.{SameName}
use Rattle.hc_value.specs.declared.storage.Class.TheVariants as class
use Rattle.hc_schema.specs.declared.table.Table.{Table}
use Rattle.hc_schema.specs.declared.table.Column.{Column}
use Rattle.hc_schema.specs.declared.table.Index.{Index}
use Rattle.hc_schema.specs.declared.table.IndexKind.{IndexKind}
use Rattle.hc_schema.specs.declared.table.IndexKind.TheVariants.{Plain, Unique, UniqueRule, Primary}

-- two lists of one length, with R between each element and the one in its place in the other
abbrev pub Pairwise : {A B : Type 0} → (A → B → Type 0) → List A → List B → Type 0
Pairwise R [] [] = Unit {0}
Pairwise R [] (y ∷ ys) = ⊥
Pairwise R (x ∷ xs) [] = ⊥
Pairwise R (x ∷ xs) (y ∷ ys) = R x y × Pairwise R xs ys

-- ---- names

-- no name of the list is the same as this one
abbrev pub IsNewName : List ℕ → List (List ℕ) → Type 0
IsNewName name names = AllByRecursion (λ other. SameName name other → ⊥) names

-- names that differ, also where the case of ASCII letters is ignored
abbrev pub NamesDiffer : List (List ℕ) → Type 0
NamesDiffer [] = Unit {0}
NamesDiffer (name ∷ names) = IsNewName name names × NamesDiffer names

-- a name that begins with `sqlite_`, in letters of any case: only the engine gives such names
abbrev pub IsReserved : List ℕ → Type 0
IsReserved name = SameName (take 7 name) (codes "sqlite_")

-- the name of the n-th index that the rules of a table made
abbrev pub automatic_name : List ℕ → ℕ → List ℕ
automatic_name table n = codes "sqlite_autoindex_" ++ (table ++ (codes "_" ++ decimal n))

-- ---- columns

-- a column has one of three classes
abbrev pub IsColumn : Column → Type 0
IsColumn column = IsUtf8 column.name × (column.class ≢ class.Null)

-- the k-th column refuses NULL
abbrev pub IsNotNull : List Column → ℕ → Type 0
IsNotNull columns k = MatchOption (slice_get columns k) ⊥ (λ column. column.not_null ≡ true)

-- the column whose value is the rowid, where there is one: integers without NULL
abbrev pub IsAlias : List Column → Option ℕ → Type 0
IsAlias columns None = Unit {0}
IsAlias columns (Some k) = MatchOption (slice_get columns k) ⊥ (λ column. (column.class ≡ class.Int) × (column.not_null ≡ true))

-- ---- indexes

-- numbers of which none stands twice
abbrev pub AreDistinct : List ℕ → Type 0
AreDistinct [] = Unit {0}
AreDistinct (n ∷ ns) = AllByRecursion (λ m. n ≢ m) ns × AreDistinct ns

-- numbers that ascend, each above the one before, and the first above `low`
abbrev pub AscendFrom : ℕ → List ℕ → Type 0
AscendFrom low [] = Unit {0}
AscendFrom low (n ∷ ns) = (low < n) × AscendFrom n ns

-- one or more columns of a table with so many, each once
abbrev pub AreKeyColumns : ℕ → List ℕ → Type 0
AreKeyColumns count columns = (columns ≢ []) × AllByRecursion (λ k. k < count) columns × AreDistinct columns

-- an index of a table with so many columns
abbrev pub IsIndex : ℕ → Index → Type 0
IsIndex count index = IsUtf8 index.name × (index.tree < 2 ^ 32) × AreKeyColumns count index.columns

-- a rule of the table made the index
abbrev pub is_rule : IndexKind → Bool
is_rule Plain = false
is_rule Unique = false
is_rule UniqueRule = true
is_rule Primary = true

abbrev pub is_primary : IndexKind → Bool
is_primary Plain = false
is_primary Unique = false
is_primary UniqueRule = false
is_primary Primary = true

-- Indexes that statements made: none is of a rule, and none has a reserved name.
abbrev pub IsMade : Index → Type 0
IsMade index = IsFalse (is_rule index.kind) × (IsReserved index.name → ⊥)

-- First the indexes of the rules, whose names count from n, and then those that statements made.
abbrev pub AreNumbered : List ℕ → ℕ → List Index → Type 0
AreNumbered table n [] = Unit {0}
AreNumbered table n (index ∷ indexes) =
    (IsTrue (is_rule index.kind) → (index.name ≡ automatic_name table n) × AreNumbered table (n + 1) indexes)
    × (IsFalse (is_rule index.kind) → AllByRecursion IsMade (index ∷ indexes))

-- how many primary keys may be indexes: none beside an alias
abbrev pub most_keys : Option ℕ → ℕ
most_keys None = 1
most_keys (Some k) = 0

-- the columns of a primary key refuse NULL
abbrev pub IsKeyNotNull : List Column → Index → Type 0
IsKeyNotNull columns index = IsTrue (is_primary index.kind) → AllByRecursion (IsNotNull columns) index.columns

-- ---- a table

abbrev pub column_names : List Column → List (List ℕ)
column_names columns = map (λ column. column.name) columns

abbrev pub index_names : List Index → List (List ℕ)
index_names indexes = map (λ index. index.name) indexes

-- what holds of a table but for the lengths of its records
pub record IsWellFormed (t : Table) : Type 0 where
  -- its name is a text that a statement may give
  pub name : IsUtf8 t.name
  pub free : IsReserved t.name → ⊥
  -- its tree's number is one from 1 to 4294967295, and below those of its indexes, which ascend
  pub tree : (1 ≤ t.tree) × (t.tree < 2 ^ 32)
  pub trees : AscendFrom t.tree (map (λ index. index.tree) t.indexes)
  -- it has 1 to 255 columns, whose names differ
  pub count : (1 ≤ length t.columns) × (length t.columns ≤ 255)
  pub columns : AllByRecursion IsColumn t.columns
  pub column_names : NamesDiffer (column_names t.columns)
  pub alias : IsAlias t.columns t.alias
  -- its indexes, whose names differ from each other and from the table's
  pub indexes : AllByRecursion (IsIndex (length t.columns)) t.indexes
  pub index_names : NamesDiffer (t.name ∷ index_names t.indexes)
  pub numbered : AreNumbered t.name 1 t.indexes
  -- it has one primary key at most, whose columns refuse NULL
  pub one_key : count_by (λ index. is_primary index.kind) t.indexes ≤ most_keys t.alias
  pub key_not_null : AllByRecursion (IsKeyNotNull t.columns) t.indexes
