-- The tests of a new row, each with what it reads: NOT NULL by column, the primary key, unique indexes by creation, and the
-- lengths of its entries.
use Rattle.std.specs.Prelude.{ℕ, ◌+◌, ℤ, Bool, true, false, not, ◌&&◌, List, [], ◌∷◌, ◌++◌, length, map, Option, Some, None, if◌then◌else◌}
use Rattle.std.specs.Option.{option_map, option_and_then, is_some, unwrap_or}
use Rattle.std.specs.List.{list_any, filter}
use Rattle.std.specs.Prelude.{slice_get}
use Rattle.hc_base.specs.Entries.{entry_fits}
use Rattle.hc_range.specs.declared.range.Range.{Range}
use Rattle.hc_value.specs.declared.value.Value.{Value}
use Rattle.hc_value.specs.declared.value.Value.TheVariants.{Null}
use Rattle.hc_key.specs.Keys.{key_bytes}
use Rattle.hc_record.specs.Record.{encoding}
use Rattle.hc_transcript.specs.declared.refusal.Refusal.{Refusal}
use Rattle.hc_transcript.specs.declared.refusal.Refusal.TheVariants.{NotNull, Primary, Unique, TooBig}
use Rattle.hc_schema.specs.declared.entry.Entry.{Entry}
use Rattle.hc_schema.specs.declared.table.Table.{Table}
use Rattle.hc_schema.specs.declared.table.Column.{Column}
use Rattle.hc_schema.specs.declared.table.Index.{Index}
use Rattle.hc_schema.specs.declared.table.IndexKind.{IndexKind}
use Rattle.hc_schema.specs.declared.table.IndexKind.TheVariants as kind
use Rattle.hc_schema.specs.Tables.{is_primary}
use Rattle.hc_schema.specs.Cells.{indexed_values}
use Rattle.hc_sql.specs.Work.{Task, give, refuse, next, for_each, refuse_if}
use Rattle.hc_sql.specs.Looks.{only, find_row, is_taken}

-- ---- tests in general

-- refused where there is a reason
abbrev pub unless : Option Refusal → Task
unless None = give tt
unless (Some refusal) = refuse refusal

abbrev pub is_null : Value → Bool
is_null Null = true
is_null v = false

-- ---- NOT NULL

-- the first column that refuses NULL and would have it
abbrev pub null_refused : List Column → List Value → Option Column
null_refused [] values = None
null_refused (column ∷ columns) [] = None
null_refused (column ∷ columns) (v ∷ values) = if column.not_null && is_null v then Some column else null_refused columns values

abbrev pub test_nulls : Table → List Value → Task
test_nulls t values = unless (option_map (λ (column : Column). NotNull t.name column.name) (null_refused t.columns values))

-- ---- keys that have to be new

-- what the primary key is called where it is the rowid
abbrev pub alias_name : Table → List ℕ
alias_name t = unwrap_or (option_and_then (λ k. option_map (λ (column : Column). column.name) (slice_get t.columns k)) t.alias) []

-- no row has this rowid: its key is read
abbrev pub test_rowid : Table → ℤ → Task
test_rowid t rowid = next (find_row t rowid) (λ found. refuse_if (is_some found) (Primary t.name (alias_name t)))

-- why a repeat in an index is refused; in a plain one it is not
abbrev pub repeat_refusal : Table → Index → IndexKind → Option Refusal
repeat_refusal t index kind.Plain = None
repeat_refusal t index kind.Unique = Some (Unique t.name index.name)
repeat_refusal t index kind.UniqueRule = Some (Unique t.name index.name)
repeat_refusal t index kind.Primary = Some (Primary t.name index.name)

abbrev pub test_new : Table → Index → List Value → Option Refusal → Task
test_new t index values None = give tt
test_new t index values (Some refusal) =
    if list_any is_null values then give tt else next (is_taken t index values) (λ taken. refuse_if taken refusal)

-- No row has these values in a unique index: its range of the values is read. With a NULL they differ from all others, and
-- nothing is read.
abbrev pub test_index : Table → List Value → Index → Task
test_index t values index = test_new t index (indexed_values index values) (repeat_refusal t index index.kind)

-- the index of a primary key comes before the others
abbrev pub primary_first : List Index → List Index
primary_first indexes = filter (λ index. is_primary index.kind) indexes ++ filter (λ index. not (is_primary index.kind)) indexes

abbrev pub test_indexes : Table → List Index → List Value → Task
test_indexes t indexes values = for_each (test_index t values) (primary_first indexes)

-- ---- lengths

abbrev pub key_len : Entry → ℕ
key_len e = length (key_bytes e.tree e.key)

abbrev pub record_len : Entry → ℕ
record_len e = length (encoding e.values)

abbrev pub has_room : Entry → Bool
has_room e = entry_fits (key_len e) (record_len e)

-- the first entry above the limit, by 16 bytes, its key and its record
abbrev pub too_long : List Entry → Option Refusal
too_long [] = None
too_long (e ∷ entries) = if has_room e then too_long entries else Some (TooBig (16 + key_len e + record_len e))

abbrev pub test_lengths : List Entry → Task
test_lengths entries = unless (too_long entries)

-- ---- cells

-- the keys of entries, each as a range
abbrev pub keys_of : List Entry → List Range
keys_of entries = map (λ (e : Entry). only (key_bytes e.tree e.key)) entries
