-- INSERT: row after row, each tested against the table as the rows before it left it.
use Rattle.std.specs.Prelude.{ℕ, ◌+◌, ◌-◌, ◌^◌, ℤ, pos, ◌+ℤ◌, Bool, true, false, List, [], ◌∷◌, length, nat_eq, slice_set, Option, Some, None, if◌then◌else◌}
use Rattle.std.specs.Ordering.{int_eq}
use Rattle.hc_value.specs.declared.value.Value.{Value}
use Rattle.hc_value.specs.declared.value.Value.TheVariants.{Null, Int}
use Rattle.hc_transcript.specs.declared.refusal.Refusal.TheVariants as refusal
use Rattle.hc_expr.specs.Values.{values_of}
use Rattle.hc_schema.specs.declared.row.Row.{Row}
use Rattle.hc_schema.specs.declared.table.Table.{Table}
use Rattle.hc_schema.specs.declared.table.Column.{Column}
use Rattle.hc_schema.specs.declared.bound_statement.BoundRow.{BoundRow}
use Rattle.hc_schema.specs.Cells.{value_at, row_entries}
use Rattle.hc_sql.specs.Work.{Work, Task, give, next, for_each, need, change}
use Rattle.hc_sql.specs.Stored.{with_row, with_rows}
use Rattle.hc_sql.specs.Looks.{find_last}
use Rattle.hc_sql.specs.Tests.{test_nulls, test_rowid, test_indexes, test_lengths, keys_of}
use Rattle.hc_sql.specs.Results.{Reply, done}

-- ---- values

-- what is given for the column at a place; NULL where nothing is
abbrev pub given_for : ℕ → List ℕ → List Value → Value
given_for k (place ∷ places) (v ∷ given) = if nat_eq place k then v else given_for k places given
given_for k places given = Null

-- a value for each column, counted from a place on
abbrev pub placed : ℕ → List Column → List ℕ → List Value → List Value
placed k [] places given = []
placed k (column ∷ columns) places given = given_for k places given ∷ placed (k + 1) columns places given

-- ---- the rowid

-- the greatest rowid and 1, or 1 in an empty table; nothing after the greatest of all
abbrev pub after_last : Option ℤ → Option ℤ
after_last None = Some (pos 1)
after_last (Some n) = if int_eq n (pos (2 ^ 63 - 1)) then None else Some (n +ℤ pos 1)

abbrev pub automatic_rowid : Table → Work ℤ
automatic_rowid t = next (find_last t) (λ last. need (refusal.Rowid t.name) (after_last last))

-- a rowid, and whether the row gave it
pub record Numbered : Type 0 where
  pub rowid : ℤ
  pub given : Bool

abbrev pub numbered_by : Table → Value → Work Numbered
numbered_by t (Int n) = give (record { rowid = n; given = true })
numbered_by t v = next (automatic_rowid t) (λ n. give (record { rowid = n; given = false }))

-- the value of the alias column, or an automatic one where that is NULL or there is none
abbrev pub rowid_of : Table → List Value → Work Numbered
rowid_of t values = elim t.alias [ None ↦ numbered_by t Null | Some k ↦ numbered_by t (value_at values k) ]

-- the alias column has the rowid
abbrev pub with_alias : Option ℕ → ℤ → List Value → List Value
with_alias None rowid values = values
with_alias (Some k) rowid values = slice_set values k (Int rowid)

-- ---- a row

-- a rowid that the row gave has to be new; its key is read
abbrev pub test_given : Table → Numbered → Task
test_given t n = if n.given then test_rowid t n.rowid else give tt

-- its cells are set
abbrev pub put_row : Table → Row → Task
put_row t row = change (keys_of (row_entries t row.rowid row.values)) (with_rows t.tree (with_row row))

-- a new row, tested and put in
abbrev pub new_row : Table → Numbered → List Value → Task
new_row t n values =
    next (test_nulls t values) (λ nulls.
    next (test_given t n) (λ given.
    next (test_indexes t t.indexes values) (λ indexes.
    next (test_lengths (row_entries t n.rowid values)) (λ lengths.
    put_row t (record { rowid = n.rowid; values = values })))))

abbrev pub insert_values : Table → List Value → Task
insert_values t values = next (rowid_of t values) (λ n. new_row t n (with_alias t.alias n.rowid values))

abbrev pub insert_row : Table → List ℕ → BoundRow → Task
insert_row t places row = next (need refusal.Overflow (values_of [] row.values)) (λ given. insert_values t (placed 0 t.columns places given))

abbrev pub insert : Table → List ℕ → List BoundRow → Work Reply
insert t places rows = next (for_each (insert_row t places) rows) (λ all. give (done (length rows)))
