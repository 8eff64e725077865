-- What CREATE makes of its text: a table with its columns, its rowid column and the indexes of its rules; or why it is refused.
use Rattle.std.specs.Prelude.{ℕ, ◌+◌, Bool, true, false, ◌||◌, List, [], ◌∷◌, ◌++◌, length, map, take, codes, nat_lt, slice_get, Option, Some, None, if◌then◌else◌}
use Rattle.std.specs.Option.{option_map, option_or, option_to_list, is_some, unwrap_or}
use Rattle.std.specs.List.{list_any, flat_map}
use Rattle.hc_value.specs.declared.storage.Class.{Class}
use Rattle.hc_value.specs.declared.storage.Class.TheVariants as class
use Rattle.hc_ast.specs.declared.table.ColumnDef.{ColumnDef}
use Rattle.hc_ast.specs.declared.table.ColumnRule.{ColumnRule}
use Rattle.hc_ast.specs.declared.table.ColumnRule.TheVariants as rule
use Rattle.hc_ast.specs.declared.table.KeyRule.{KeyRule}
use Rattle.hc_transcript.specs.declared.refusal.Refusal.{Refusal}
use Rattle.hc_transcript.specs.declared.refusal.Refusal.TheVariants as refusal
use Rattle.hc_schema.specs.declared.table.Table.{Table}
use Rattle.hc_schema.specs.declared.table.Column.{Column}
use Rattle.hc_schema.specs.declared.table.Index.{Index}
use Rattle.hc_schema.specs.declared.table.IndexKind.{IndexKind}
use Rattle.hc_schema.specs.declared.table.IndexKind.TheVariants as kind
use Rattle.hc_schema.specs.Binding.Names.{same_name}
use Rattle.hc_schema.specs.Paths.{includes}
use Rattle.hc_schema.specs.Tables.{automatic_name}

-- ---- names

-- only the engine gives names that begin so
abbrev pub is_reserved : List ℕ → Bool
is_reserved name = same_name (take 7 name) (codes "sqlite_")

-- the place of the first name that is the same, counted from k
abbrev pub name_place : ℕ → List (List ℕ) → List ℕ → Option ℕ
name_place k [] name = None
name_place k (other ∷ names) name = if same_name other name then Some k else name_place (k + 1) names name

-- the same name as it was created, or else as it is written
abbrev pub as_created : List (List ℕ) → List ℕ → List ℕ
as_created [] name = name
as_created (other ∷ names) name = if same_name other name then other else as_created names name

-- the first name that is the same as one before it
abbrev pub repeated_after : List (List ℕ) → List (List ℕ) → Option (List ℕ)
repeated_after before [] = None
repeated_after before (name ∷ names) =
    if list_any (λ other. same_name other name) before then Some name else repeated_after (before ++ name ∷ []) names

abbrev pub repeated : List (List ℕ) → Option (List ℕ)
repeated names = repeated_after [] names

-- the first of a list that is there
abbrev pub first_some : {A : Type 0} → List (Option A) → Option A
first_some [] = None
first_some (x ∷ xs) = option_or x (first_some xs)

-- ---- the tests of CREATE TABLE

abbrev pub defined_names : List ColumnDef → List (List ℕ)
defined_names columns = map (λ (c : ColumnDef). c.name) columns

-- A column that is named twice, first in the definitions, then in a rule of the table: as it is written at the second place.
abbrev pub two_columns : List ColumnDef → List KeyRule → Option Refusal
two_columns columns rules =
    option_map refusal.TwoColumns (option_or (repeated (defined_names columns)) (first_some (map (λ (r : KeyRule). repeated r.columns) rules)))

abbrev pub is_primary_rule : ColumnRule → Bool
is_primary_rule rule.PrimaryKey = true
is_primary_rule r = false

abbrev pub one_if : Bool → ℕ
one_if true = 1
one_if false = 0

abbrev pub count_true : List Bool → ℕ
count_true [] = 0
count_true (b ∷ bs) = one_if b + count_true bs

-- how often a primary key is asked for
abbrev pub primary_keys : List ColumnDef → List KeyRule → ℕ
primary_keys columns rules =
    count_true (map is_primary_rule (flat_map (λ (c : ColumnDef). c.rules) columns)) + count_true (map (λ (r : KeyRule). r.primary) rules)

abbrev pub two_keys : List ColumnDef → List KeyRule → Option Refusal
two_keys columns rules = if nat_lt 1 (primary_keys columns rules) then Some refusal.TwoKeys else None

-- the first name that is none of these
abbrev pub unknown : List (List ℕ) → List (List ℕ) → Option (List ℕ)
unknown known [] = None
unknown known (name ∷ names) = if is_some (name_place 0 known name) then unknown known names else Some name

abbrev pub no_column : List ColumnDef → List KeyRule → Option Refusal
no_column columns rules = option_map refusal.NoColumn (unknown (defined_names columns) (flat_map (λ (r : KeyRule). r.columns) rules))

abbrev pub many_columns : List ℕ → List ColumnDef → Option Refusal
many_columns name columns = if nat_lt 255 (length columns) then Some (refusal.TooManyColumns name) else None

-- the first test that the columns and rules of a table fail
abbrev pub table_refused : List ℕ → List ColumnDef → List KeyRule → Option Refusal
table_refused name columns rules =
    first_some (many_columns name columns ∷ two_columns columns rules ∷ two_keys columns rules ∷ no_column columns rules ∷ [])

-- ---- the keys of a table

-- a primary key or a UNIQUE, and its columns by their places
pub record Key : Type 0 where
  pub primary : Bool
  pub columns : List ℕ

-- the key that a rule of the column at a place asks for
abbrev pub column_key : ℕ → ColumnRule → List Key
column_key k rule.PrimaryKey = record { primary = true; columns = k ∷ [] } ∷ []
column_key k rule.Unique = record { primary = false; columns = k ∷ [] } ∷ []
column_key k rule.NotNull = []

abbrev pub column_keys : ℕ → List ColumnDef → List Key
column_keys k [] = []
column_keys k (c ∷ columns) = flat_map (column_key k) c.rules ++ column_keys (k + 1) columns

abbrev pub rule_key : List (List ℕ) → KeyRule → Key
rule_key names r = record { primary = r.primary; columns = flat_map (λ name. option_to_list (name_place 0 names name)) r.columns }

-- all keys, in the order of text
abbrev pub keys : List ColumnDef → List KeyRule → List Key
keys columns rules = column_keys 0 columns ++ map (rule_key (defined_names columns)) rules

-- ---- the rowid

abbrev pub is_integer : Class → Bool
is_integer class.Int = true
is_integer c = false

abbrev pub integer_at : List ColumnDef → ℕ → Bool
integer_at columns k = unwrap_or (option_map (λ (c : ColumnDef). is_integer c.class) (slice_get columns k)) false

-- the column of a primary key over exactly one column of integers
abbrev pub alias_in : List ColumnDef → Bool → List ℕ → Option ℕ
alias_in columns true (k ∷ []) = if integer_at columns k then Some k else None
alias_in columns primary places = None

abbrev pub alias_of : List ColumnDef → List Key → Option ℕ
alias_of columns found = first_some (map (λ (key : Key). alias_in columns key.primary key.columns) found)

-- ---- the table

-- the places of the columns of the primary key
abbrev pub primary_places : List Key → List ℕ
primary_places [] = []
primary_places (key ∷ found) = if key.primary then key.columns ++ primary_places found else primary_places found

abbrev pub says_not_null : ColumnRule → Bool
says_not_null rule.NotNull = true
says_not_null r = false

-- the columns, counted from a place on; those of the primary key refuse NULL
abbrev pub columns_of : List ℕ → ℕ → List ColumnDef → List Column
columns_of primary k [] = []
columns_of primary k (c ∷ columns) =
    record { name = c.name; class = c.class; not_null = list_any says_not_null c.rules || includes k primary } ∷ columns_of primary (k + 1) columns

abbrev pub key_kind : Bool → IndexKind
key_kind true = kind.Primary
key_kind false = kind.UniqueRule

-- the indexes of keys in the order of text, but that of the rowid; the n-th has the tree n after the table's
abbrev pub indexes_of : List ℕ → ℕ → List ColumnDef → ℕ → List Key → List Index
indexes_of name tree columns n [] = []
indexes_of name tree columns n (key ∷ found) =
    if is_some (alias_in columns key.primary key.columns) then indexes_of name tree columns n found
    else record { name = automatic_name name n; tree = tree + n; kind = key_kind key.primary; columns = key.columns } ∷ indexes_of name tree columns (n + 1) found

-- the table of a definition, with this tree
abbrev pub table_from : List ℕ → ℕ → List ColumnDef → List Key → Table
table_from name tree columns found = record {
  name = name;
  tree = tree;
  columns = columns_of (primary_places found) 0 columns;
  alias = alias_of columns found;
  indexes = indexes_of name tree columns 1 found;
}

abbrev pub new_table : List ℕ → ℕ → List ColumnDef → List KeyRule → Table
new_table name tree columns rules = table_from name tree columns (keys columns rules)

-- the greatest number of a new table's trees
abbrev pub last_tree : Table → ℕ
last_tree t = t.tree + length t.indexes

-- ---- the index of CREATE INDEX

abbrev pub table_names : Table → List (List ℕ)
table_names t = map (λ column. column.name) t.columns

-- the first test that the columns of an index fail: all are columns of the table, and none is named twice
abbrev pub index_refused : Table → List (List ℕ) → Option Refusal
index_refused t names =
    option_or (option_map refusal.NoColumn (unknown (table_names t) names))
    (option_map (λ name. refusal.TwoColumns (as_created (table_names t) name)) (repeated names))

abbrev pub made_kind : Bool → IndexKind
made_kind true = kind.Unique
made_kind false = kind.Plain

abbrev pub new_index : Table → List ℕ → ℕ → Bool → List (List ℕ) → Index
new_index t name tree is_unique names = record {
  name = name;
  tree = tree;
  kind = made_kind is_unique;
  columns = flat_map (λ column. option_to_list (name_place 0 (table_names t) column)) names;
}
