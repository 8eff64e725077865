-- UPDATE and DELETE: first all rows are found, and all new values computed; then row after row is changed, in order of old rowids.
use Rattle.std.specs.Prelude.{ℕ, ℤ, Bool, not, List, [], ◌∷◌, ◌++◌, length, map, slice_set, Option, Some, None, if◌then◌else◌}
use Rattle.std.specs.Option.{option_map}
use Rattle.std.specs.Ordering.{int_eq}
use Rattle.std.specs.List.{filter}
use Rattle.hc_value.specs.declared.value.Value.{Value}
use Rattle.hc_value.specs.declared.value.Value.TheVariants.{Int}
use Rattle.hc_ast.specs.declared.bound.Bound.{Bound}
use Rattle.hc_transcript.specs.declared.refusal.Refusal.TheVariants.{Overflow}
use Rattle.hc_expr.specs.Values.{values_of}
use Rattle.hc_schema.specs.declared.entry.Entry.{Entry}
use Rattle.hc_schema.specs.declared.row.Row.{Row}
use Rattle.hc_schema.specs.declared.table.Table.{Table}
use Rattle.hc_schema.specs.declared.table.Index.{Index}
use Rattle.hc_schema.specs.declared.bound_statement.BoundSet.{BoundSet}
use Rattle.hc_schema.specs.Paths.{path_of}
use Rattle.hc_schema.specs.Cells.{value_at, indexed_values, row_entry, row_index_entry, row_entries}
use Rattle.hc_sql.specs.Work.{Work, Task, give, next, in_turn, for_each, need, change}
use Rattle.hc_sql.specs.Stored.{with_row, without_row, with_rows}
use Rattle.hc_sql.specs.Looks.{same_values}
use Rattle.hc_sql.specs.Select.{meets, path_rows, flat}
use Rattle.hc_sql.specs.Grouping.{all_some}
use Rattle.hc_sql.specs.Tests.{test_nulls, test_rowid, test_indexes, test_lengths, keys_of}
use Rattle.hc_sql.specs.Results.{Reply, done}

-- ---- rows that meet a condition

abbrev pub if_found : Row → Bool → List Row
if_found row met = if met then row ∷ [] else []

-- a row of the path, if it meets the condition
abbrev pub met_row : List Bound → Row → Work (List Row)
met_row conjuncts row = next (need Overflow (meets conjuncts row.values)) (λ met. give (if_found row met))

-- the rows of a table that meet the condition, in order of rowids
abbrev pub met_rows : Table → List Bound → Work (List Row)
met_rows t conjuncts =
    next (path_rows t 0 conjuncts [] (path_of t 0 conjuncts)) (λ rows.
    next (in_turn (met_row conjuncts) rows) (λ found.
    give (flat found)))

-- ---- DELETE

-- its cells are cleared
abbrev pub clear_row : Table → Row → Task
clear_row t row = change (keys_of (row_entries t row.rowid row.values)) (with_rows t.tree (without_row row.rowid))

abbrev pub delete : Table → List Bound → Work Reply
delete t conjuncts = next (met_rows t conjuncts) (λ rows. next (for_each (clear_row t) rows) (λ all. give (done (length rows))))

-- ---- UPDATE: new values

-- a row, and what it becomes
pub record Change : Type 0 where
  pub old : Row
  pub new : Row

-- each value in its column's place
abbrev pub with_sets : List BoundSet → List Value → List Value → List Value
with_sets (s ∷ sets) (v ∷ given) values = with_sets sets given (slice_set values s.column v)
with_sets sets given values = values

-- the rowid is the alias column's value; where that is NULL, which the column refuses, or there is none, it stays
abbrev pub rowid_in : Value → ℤ → ℤ
rowid_in (Int n) rowid = n
rowid_in v rowid = rowid

abbrev pub new_rowid : Option ℕ → List Value → ℤ → ℤ
new_rowid None values rowid = rowid
new_rowid (Some k) values rowid = rowid_in (value_at values k) rowid

abbrev pub changed_to : Table → Row → List Value → Change
changed_to t row values = record { old = row; new = record { rowid = new_rowid t.alias values row.rowid; values = values } }

-- the new values of a row, all computed on the old ones
abbrev pub changed : Table → List BoundSet → Row → Option Change
changed t sets row =
    option_map (λ given. changed_to t row (with_sets sets given row.values)) (values_of row.values (map (λ (s : BoundSet). s.value) sets))

-- ---- UPDATE: a row

abbrev pub is_moved : Change → Bool
is_moved c = not (int_eq c.old.rowid c.new.rowid)

-- its values in an index are others
abbrev pub has_new_values : Change → Index → Bool
has_new_values c index = not (same_values (indexed_values index c.old.values) (indexed_values index c.new.values))

-- its key in an index is another
abbrev pub has_new_key : Change → Index → Bool
has_new_key c index = not (same_values (row_index_entry c.old.rowid c.old.values index).key (row_index_entry c.new.rowid c.new.values index).key)

-- the entries that are set: the row's own, and those in the indexes where its key is another
abbrev pub set_entries : Table → Change → List Entry
set_entries t c = row_entry t c.new.rowid c.new.values ∷ map (row_index_entry c.new.rowid c.new.values) (filter (has_new_key c) t.indexes)

-- the old entry, where the rowid is another
abbrev pub left_entry : Table → Change → List Entry
left_entry t c = if is_moved c then row_entry t c.old.rowid c.old.values ∷ [] else []

-- the entries that are cleared
abbrev pub cleared_entries : Table → Change → List Entry
cleared_entries t c = left_entry t c ++ map (row_index_entry c.old.rowid c.old.values) (filter (has_new_key c) t.indexes)

-- the new row in place of the old one
abbrev pub exchange : Change → List Row → List Row
exchange c rows = with_row c.new (without_row c.old.rowid rows)

abbrev pub put_change : Table → Change → Task
put_change t c = change (keys_of (set_entries t c ++ cleared_entries t c)) (with_rows t.tree (exchange c))

-- a rowid that is another has to be new
abbrev pub test_moved : Table → Change → Task
test_moved t c = if is_moved c then test_rowid t c.new.rowid else give tt

-- A changed row is tested and put in place of the old one. Only keys that are others are tested, so never against the row itself.
abbrev pub change_row : Table → Change → Task
change_row t c =
    next (test_nulls t c.new.values) (λ nulls.
    next (test_moved t c) (λ moved.
    next (test_indexes t (filter (has_new_values c) t.indexes) c.new.values) (λ indexes.
    next (test_lengths (set_entries t c)) (λ lengths.
    put_change t c))))

abbrev pub update : Table → List BoundSet → List Bound → Work Reply
update t sets conjuncts =
    next (met_rows t conjuncts) (λ rows.
    next (need Overflow (all_some (map (changed t sets) rows))) (λ changes.
    next (for_each (change_row t) changes) (λ all.
    give (done (length rows)))))
