-- INSERT changes no key but those that it reads.
use Rattle.std.proofs.Common.{ℕ, ℤ, List, [], length, Option, Some, None, false, refl}
use Rattle.hc_range.specs.Ranges.{InAny}
use Rattle.hc_value.specs.declared.value.Value.{Value}
use Rattle.hc_value.specs.declared.value.Value.TheVariants.{Null, Int, Text, Blob}
use Rattle.hc_transcript.specs.declared.refusal.Refusal.{Refusal}
use Rattle.hc_transcript.specs.declared.refusal.Refusal.TheVariants as refusal
use Rattle.hc_schema.specs.declared.bound_statement.BoundRow.{BoundRow}
use Rattle.hc_schema.specs.declared.table.Table.{Table}
use Rattle.hc_schema.specs.declared.table.Index.{Index}
use Rattle.hc_schema.specs.declared.row.Row.{Row}
use Rattle.hc_schema.specs.Cells.{value_at, row_entries}
use Rattle.hc_schema.specs.Databases.{Database}
use Rattle.hc_expr.specs.Values.{values_of}
use Rattle.hc_sql.specs.Work.{give, next, for_each, need, refuse_if}
use Rattle.hc_sql.specs.Stored.{with_row}
use Rattle.hc_sql.specs.Looks.{find_row, find_last, is_taken}
use Rattle.hc_sql.specs.Results.{done}
use Rattle.hc_sql.specs.Tests.{is_null, alias_name, repeat_refusal, test_new, test_index, test_indexes, test_rowid, test_nulls, test_lengths, primary_first, keys_of}
use Rattle.std.specs.Option.{is_some}
use Rattle.std.specs.List.{list_any}
use Rattle.hc_schema.specs.Cells.{indexed_values}
use Rattle.hc_sql.specs.Insert.{Numbered, after_last, automatic_rowid, numbered_by, rowid_of, with_alias, test_given, put_row, new_row, insert_values, insert_row, insert, placed}
use Rattle.hc_sql.proofs.DecidedLooks.{Any}
use Rattle.hc_sql.proofs.Kept.{IsConfined, IsStill, next_confined, for_each_confined, still_confined, next_still, for_each_still, need_still, unless_still, if_still, refuse_if_still}
use Rattle.hc_sql.proofs.KeptRows.{IsOnlyWith, put_kept, rows_kept, still_only}

-- ---- tests change nothing

pub rowid_still : (t : Table) (rowid : ℤ) → IsStill (test_rowid t rowid)
rowid_still t rowid = next_still (find_row t rowid) (λ found. refuse_if (is_some found) (refusal.Primary t.name (alias_name t))) (λ db. refl) (λ found. refuse_if_still (is_some found) (refusal.Primary t.name (alias_name t)))

new_still : (t : Table) (index : Index) (values : List Value) (reason : Option Refusal) → IsStill (test_new t index values reason)
new_still t index values None = λ db. refl
new_still t index values (Some reason) =
    if_still (list_any is_null values) (give tt) (next (is_taken t index values) (λ taken. refuse_if taken reason)) (λ db. refl)
    (next_still (is_taken t index values) (λ taken. refuse_if taken reason) (λ db. refl) (λ taken. refuse_if_still taken reason))

pub indexes_still : (t : Table) (indexes : List Index) (values : List Value) → IsStill (test_indexes t indexes values)
indexes_still t indexes values =
    for_each_still (test_index t values) (primary_first indexes) (λ index. new_still t index (indexed_values index values) (repeat_refusal t index index.kind))

-- ---- the rowid

automatic_still : (t : Table) → IsStill (automatic_rowid t)
automatic_still t = next_still (find_last t) (λ last. need (refusal.Rowid t.name) (after_last last)) (λ db. refl) (λ last. need_still (refusal.Rowid t.name) (after_last last))

numbered_still : (t : Table) (v : Value) → IsStill (numbered_by t v)
numbered_still t (Int n) = λ db. refl
numbered_still t Null = next_still (automatic_rowid t) (λ n. give (record { rowid = n; given = false })) (automatic_still t) (λ n db. refl)
numbered_still t (Text text) = next_still (automatic_rowid t) (λ n. give (record { rowid = n; given = false })) (automatic_still t) (λ n db. refl)
numbered_still t (Blob bytes) = next_still (automatic_rowid t) (λ n. give (record { rowid = n; given = false })) (automatic_still t) (λ n db. refl)

chosen_still : (t : Table) (values : List Value) (alias : Option ℕ) → IsStill (elim alias [ None ↦ numbered_by t Null | Some k ↦ numbered_by t (value_at values k) ])
chosen_still t values None = numbered_still t Null
chosen_still t values (Some k) = numbered_still t (value_at values k)

-- ---- a row

module _ (t : Table) where
  abbrev Only : Database → Type 0
  Only = IsOnlyWith Any t

  put_confined : (row : Row) → IsConfined Only (λ done. Only) (put_row t row)
  put_confined row db is = (
    rows_kept (InAny (keys_of (row_entries t row.rowid row.values))) t (with_row row) Any (λ rows any. put_kept t row rows) db is,
    still_only Any Any t (with_row row) db (λ rows any. tt) (λ rows any. tt) is,
  )

  new_confined : (n : Numbered) (values : List Value) → IsConfined Only (λ done. Only) (new_row t n values)
  new_confined n values =
      let row : Row = record { rowid = n.rowid; values = values } in
      let last = λ (lengths : Unit {0}). put_row t row in
      let fourth = λ (indexes : Unit {0}). next (test_lengths (row_entries t n.rowid values)) last in
      let third = λ (given : Unit {0}). next (test_indexes t t.indexes values) fourth in
      let second = λ (nulls : Unit {0}). next (test_given t n) third in
      next_confined Only (λ x. Only) (λ x. Only) (test_nulls t values) second (still_confined Only (test_nulls t values) (unless_still _))
      (λ nulls. next_confined Only (λ x. Only) (λ x. Only) (test_given t n) third (still_confined Only (test_given t n) (if_still n.given (test_rowid t n.rowid) (give tt) (rowid_still t n.rowid) (λ db. refl)))
      (λ given. next_confined Only (λ x. Only) (λ x. Only) (test_indexes t t.indexes values) fourth (still_confined Only (test_indexes t t.indexes values) (indexes_still t t.indexes values))
      (λ indexes. next_confined Only (λ x. Only) (λ x. Only) (test_lengths (row_entries t n.rowid values)) last (still_confined Only (test_lengths (row_entries t n.rowid values)) (unless_still _))
      (λ lengths. put_confined row))))

  values_confined : (values : List Value) → IsConfined Only (λ done. Only) (insert_values t values)
  values_confined values =
      next_confined Only (λ x. Only) (λ x. Only) (rowid_of t values) (λ n. new_row t n (with_alias t.alias n.rowid values))
      (still_confined Only (rowid_of t values) (chosen_still t values t.alias)) (λ n. new_confined n (with_alias t.alias n.rowid values))

  row_confined : (places : List ℕ) (row : BoundRow) → IsConfined Only (λ done. Only) (insert_row t places row)
  row_confined places row =
      next_confined Only (λ x. Only) (λ x. Only) (need refusal.Overflow (values_of [] row.values)) (λ given. insert_values t (placed 0 t.columns places given))
      (still_confined Only (need refusal.Overflow (values_of [] row.values)) (need_still refusal.Overflow (values_of [] row.values)))
      (λ given. values_confined (placed 0 t.columns places given))

  pub insert_confined : (places : List ℕ) (rows : List BoundRow) → IsConfined Only (λ reply. Only) (insert t places rows)
  insert_confined places rows =
      next_confined Only (λ x. Only) (λ x. Only) (for_each (insert_row t places) rows) (λ all. give (done (length rows)))
      (for_each_confined Only (insert_row t places) rows (row_confined places)) (λ all. still_confined Only (give (done (length rows))) (λ db. refl))
