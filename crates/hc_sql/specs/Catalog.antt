-- CREATE and DROP. Each reads the whole catalog before its first test.
use Rattle.std.specs.Prelude.{ℕ, ◌+◌, ◌^◌, Bool, not, ◌&&◌, List, [], ◌∷◌, ◌++◌, map, nat_lt, Option, Some, None, if◌then◌else◌}
use Rattle.std.specs.Option.{option_map, option_or, is_some}
use Rattle.std.specs.List.{list_any}
use Rattle.hc_range.specs.declared.range.Range.{Range}
use Rattle.hc_range.specs.Order.{is_below}
use Rattle.hc_value.specs.declared.value.Value.{Value}
use Rattle.hc_key.specs.Keys.{key_bytes}
use Rattle.hc_ast.specs.declared.table.ColumnDef.{ColumnDef}
use Rattle.hc_ast.specs.declared.table.KeyRule.{KeyRule}
use Rattle.hc_transcript.specs.declared.refusal.Refusal.{Refusal}
use Rattle.hc_transcript.specs.declared.refusal.Refusal.TheVariants as refusal
use Rattle.hc_schema.specs.declared.entry.Entry.{Entry}
use Rattle.hc_schema.specs.declared.row.Row.{Row}
use Rattle.hc_schema.specs.declared.table.Table.{Table}
use Rattle.hc_schema.specs.declared.table.Index.{Index}
use Rattle.hc_schema.specs.Binding.Names.{same_name}
use Rattle.hc_schema.specs.Tables.{is_rule}
use Rattle.hc_schema.specs.Trees.{greatest, tree_numbers}
use Rattle.hc_schema.specs.Cells.{tree_range, indexed_values, index_entry, index_name_entry, row_index_entry, table_entries, name_entries}
use Rattle.hc_sql.specs.Work.{Work, Task, give, refuse, next, need, refuse_if, change}
use Rattle.hc_sql.specs.Stored.{Owned, index_of, with_table, without_table, change_indexes, without_index}
use Rattle.hc_sql.specs.Looks.{same_values, read_catalog, find_rows}
use Rattle.hc_sql.specs.Tests.{unless, is_null, repeat_refusal, test_lengths, keys_of}
use Rattle.hc_sql.specs.Definitions.{is_reserved, new_table, new_index, last_tree, table_refused, index_refused}
use Rattle.hc_sql.specs.Results.{Reply, done}

-- ---- names in use

-- the table of this name
abbrev pub table_named : List Table → List ℕ → Option Table
table_named [] name = None
table_named (t ∷ tables) name = if same_name t.name name then Some t else table_named tables name

-- the name in use that is the same, as it was created: a table's or an index's
abbrev pub in_use : List Table → List ℕ → Option (List ℕ)
in_use tables name =
    option_or (option_map (λ (t : Table). t.name) (table_named tables name)) (option_map (λ (o : Owned). o.index.name) (index_of tables name))

-- a new name, or why it cannot be given
abbrev pub test_name : List Table → List ℕ → Task
test_name tables name = unless (option_map refusal.Exists (in_use tables name))

-- ---- entries by their keys

abbrev pub entry_key : Entry → List ℕ
entry_key e = key_bytes e.tree e.key

abbrev pub with_entry : Entry → List Entry → List Entry
with_entry e [] = e ∷ []
with_entry e (other ∷ entries) = if is_below (entry_key other) (entry_key e) then other ∷ with_entry e entries else e ∷ other ∷ entries

-- in ascending order of keys
abbrev pub in_order : List Entry → List Entry
in_order [] = []
in_order (e ∷ entries) = with_entry e (in_order entries)

-- ---- CREATE TABLE

-- a number of 32 bits
abbrev pub is_tree : ℕ → Bool
is_tree n = nat_lt n (2 ^ 32)

-- all entries of a table in the catalog
abbrev pub catalog_entries : Table → List Entry
catalog_entries t = table_entries t ++ name_entries t

abbrev pub put_table : Table → Task
put_table t = change (keys_of (catalog_entries t)) (with_table t)

abbrev pub make_table : Table → Work Reply
make_table t =
    next (refuse_if (not (is_tree (last_tree t))) refusal.Trees) (λ trees.
    next (test_lengths (in_order (catalog_entries t))) (λ lengths.
    next (put_table t) (λ put.
    give (done 0))))

-- the number after the greatest in the catalog
abbrev pub next_tree : List Table → ℕ
next_tree tables = greatest (tree_numbers tables) + 1

abbrev pub create_new_table : List Table → List ℕ → List ColumnDef → List KeyRule → Work Reply
create_new_table tables name columns rules =
    next (test_name tables name) (λ free.
    next (unless (table_refused name columns rules)) (λ right.
    make_table (new_table name (next_tree tables) columns rules)))

-- IF NOT EXISTS answers ok where a table has the name
abbrev pub create_table_in : List Table → Bool → List ℕ → List ColumnDef → List KeyRule → Work Reply
create_table_in tables maybe name columns rules =
    next (refuse_if (is_reserved name) (refusal.Reserved name)) (λ free.
    if maybe && is_some (table_named tables name) then give (done 0) else create_new_table tables name columns rules)

abbrev pub create_table : Bool → List ℕ → List ColumnDef → List KeyRule → Work Reply
create_table maybe name columns rules = next read_catalog (λ tables. create_table_in tables maybe name columns rules)

-- ---- CREATE INDEX

-- the values stand in a row before, none of them NULL
abbrev pub is_repeat : Index → List Value → List Row → Bool
is_repeat index values before =
    not (list_any is_null values) && list_any (λ (row : Row). same_values (indexed_values index row.values) values) before

abbrev pub repeat_in : Table → Index → List Value → List Row → Option Refusal
repeat_in t index values before = if is_repeat index values before then repeat_refusal t index index.kind else None

-- the entry of a row is set
abbrev pub set_entry : Entry → Task
set_entry e = change (keys_of (e ∷ [])) (λ db. db)

-- Row after row: the repeat, the length of its entry, and then the entry is set.
abbrev pub index_rows : Table → Index → List Row → List Row → Task
index_rows t index before [] = give tt
index_rows t index before (row ∷ rows) =
    next (unless (repeat_in t index (indexed_values index row.values) before)) (λ new.
    next (test_lengths (row_index_entry row.rowid row.values index ∷ [])) (λ length.
    next (set_entry (row_index_entry row.rowid row.values index)) (λ set.
    index_rows t index (before ++ row ∷ []) rows)))

-- the entries of an index in the catalog
abbrev pub index_entries : Table → Index → List Entry
index_entries t index = index_entry t.name index ∷ index_name_entry t.name index ∷ []

abbrev pub put_index : Table → Index → Task
put_index t index = change (keys_of (index_entries t index)) (change_indexes t.tree (λ indexes. indexes ++ index ∷ []))

abbrev pub make_index : Table → Index → Work Reply
make_index t index =
    next (refuse_if (not (is_tree index.tree)) refusal.Trees) (λ trees.
    next (test_lengths (in_order (index_entries t index))) (λ lengths.
    next (find_rows t) (λ rows.
    next (index_rows t index [] rows) (λ all.
    next (put_index t index) (λ put.
    give (done 0))))))

abbrev pub create_new_index : List Table → Table → Bool → List ℕ → List (List ℕ) → Work Reply
create_new_index tables t is_unique name columns =
    next (test_name tables name) (λ free.
    next (unless (index_refused t columns)) (λ right.
    make_index t (new_index t name (next_tree tables) is_unique columns)))

-- IF NOT EXISTS answers ok where an index has the name
abbrev pub create_index_in : List Table → Bool → Bool → List ℕ → List ℕ → List (List ℕ) → Work Reply
create_index_in tables is_unique maybe name table columns =
    next (refuse_if (is_reserved name) (refusal.Reserved name)) (λ free.
    next (need (refusal.NoTable table) (table_named tables table)) (λ t.
    if maybe && is_some (index_of tables name) then give (done 0) else create_new_index tables t is_unique name columns))

abbrev pub create_index : Bool → Bool → List ℕ → List ℕ → List (List ℕ) → Work Reply
create_index is_unique maybe name table columns = next read_catalog (λ tables. create_index_in tables is_unique maybe name table columns)

-- ---- DROP

-- the ranges of a table and its indexes
abbrev pub ranges_of : Table → List Range
ranges_of t = tree_range t.tree ∷ map (λ (index : Index). tree_range index.tree) t.indexes

-- a table goes with its rows and its indexes
abbrev pub drop_that_table : Table → Work Reply
drop_that_table t = next (change (ranges_of t ++ keys_of (catalog_entries t)) (without_table t.tree)) (λ dropped. give (done 0))

-- IF EXISTS answers ok where there is none
abbrev pub or_nothing : {A : Type 0} → Bool → Refusal → (A → Work Reply) → Option A → Work Reply
or_nothing maybe missing drop None = if maybe then give (done 0) else refuse missing
or_nothing maybe missing drop (Some x) = drop x

abbrev pub drop_table : Bool → List ℕ → Work Reply
drop_table maybe name = next read_catalog (λ tables. or_nothing maybe (refusal.NoTable name) drop_that_table (table_named tables name))

abbrev pub clear_index : Table → Index → Task
clear_index t index = change (tree_range index.tree ∷ keys_of (index_entries t index)) (change_indexes t.tree (without_index index.tree))

-- the index of a rule stays as long as its table
abbrev pub drop_that_index : Owned → Work Reply
drop_that_index o =
    next (refuse_if (is_rule o.index.kind) (refusal.Reserved o.index.name)) (λ made.
    next (clear_index o.table o.index) (λ dropped.
    give (done 0)))

abbrev pub drop_index : Bool → List ℕ → Work Reply
drop_index maybe name = next read_catalog (λ tables. or_nothing maybe (refusal.NoIndex name) drop_that_index (index_of tables name))
