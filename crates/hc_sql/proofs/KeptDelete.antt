-- DELETE changes no key but those that it reads.
use Rattle.std.proofs.Common.{◌≡◌, List, [], ◌∷◌, ◌⊎◌, inl, inr, length, Bool, true, false, not, if◌then◌else◌, refl, sym, ap, subst, ◌∙◌}
use Rattle.std.specs.List.{AllByRecursion, filter}
use Rattle.std.specs.Ordering.{int_eq}
use Rattle.std.specs.Bool.{Decides}
use Rattle.std.proofs.lemmas.Bool.Decides.{Decides-int_eq}
use Rattle.hc_range.specs.Ranges.{InAny}
use Rattle.hc_ast.specs.declared.bound.Bound.{Bound}
use Rattle.hc_base.specs.Lookup.{Among}
use Rattle.hc_schema.specs.declared.entry.Entry.{Entry}
use Rattle.hc_schema.specs.declared.table.Table.{Table}
use Rattle.hc_schema.specs.declared.row.Row.{Row}
use Rattle.hc_schema.specs.Cells.{row_entries}
use Rattle.hc_schema.specs.Databases.{Database, Filled, IsDatabase}
use Rattle.hc_schema.proofs.Orders.{among_front, among_back, among_either, all_from}
use Rattle.hc_schema.proofs.SamePlaces.{one_tree, all_weaker}
use Rattle.hc_schema.proofs.OneRecord.{same_row}
use Rattle.hc_sql.specs.Work.{give, next, for_each}
use Rattle.hc_sql.specs.Stored.{rows_in, without_row}
use Rattle.hc_sql.specs.Results.{done}
use Rattle.hc_sql.specs.Tests.{keys_of}
use Rattle.hc_sql.specs.Update.{met_rows, clear_row, delete}
use Rattle.hc_sql.proofs.DecidedLooks.{Any, Has}
use Rattle.hc_sql.proofs.Searches.{rows_found}
use Rattle.hc_sql.proofs.Finds.{IsIn, finds_confined, met_finds}
use Rattle.hc_sql.proofs.Kept.{IsConfined, next_confined, still_confined, kept_same}
use Rattle.hc_sql.proofs.KeptRows.{KeptRows, IsOnlyWith, at_own, entries_of_rows, rows_kept, still_only}

-- no other row has its rowid
abbrev pub Single : List Row → Row → Type 0
Single rows old = (row : Row) → Among row rows → row.rowid ≡ old.rowid → row ≡ old

pub filtered : (test : Row → Bool) (rows : List Row) (row : Row) → Among row (filter test rows) → Among row rows
filtered test [] row among = among
filtered test (r ∷ rows) row among = by_test (test r) (filtered test rows row) among
  where
    by_test : (passes : Bool) → (Among row (filter test rows) → Among row rows) → Among row (if passes then r ∷ filter test rows else filter test rows) → Among row (r ∷ rows)
    by_test true rest (inl here) = inl here
    by_test true rest (inr later) = inr (rest later)
    by_test false rest later = inr (rest later)

module _ (t : Table) (old : Row) where
  abbrev own : List Entry
  own = row_entries t old.rowid old.values

  abbrev rest_of : List Row → List Row
  rest_of rows = without_row old.rowid rows

  -- an entry is the row's, or it stays
  pub own_or_stays : (rows : List Row) → Single rows old → (e : Entry) → Among e (entries_of_rows t rows) → Among e own ⊎ Among e (entries_of_rows t (rest_of rows))
  own_or_stays [] single e among = absurd among
  own_or_stays (row ∷ rows) single e among =
      by_test (int_eq row.rowid old.rowid) refl (own_or_stays rows (λ r later. single r (inr later)) e) (among_either e (row_entries t row.rowid row.values) (entries_of_rows t rows) among)
    where
      same : Decides (int_eq row.rowid old.rowid) (row.rowid ≡ old.rowid)
      same = Decides-int_eq row.rowid old.rowid

      by_test : (here : Bool) → int_eq row.rowid old.rowid ≡ here → (Among e (entries_of_rows t rows) → Among e own ⊎ Among e (entries_of_rows t (rest_of rows)))
          → Among e (row_entries t row.rowid row.values) ⊎ Among e (entries_of_rows t rows) → Among e own ⊎ Among e (entries_of_rows t (if not here then row ∷ rest_of rows else rest_of rows))
      by_test true is rest (inl mine) = let one : row ≡ old = single row (inl refl) (same.0 is) in inl (subst (λ (r : Row). Among e (row_entries t r.rowid r.values)) one mine)
      by_test true is rest (inr later) = rest later
      by_test false is rest (inl mine) = inr (among_front e (row_entries t row.rowid row.values) (entries_of_rows t (rest_of rows)) mine)
      by_test false is rest (inr later) = elim (rest later) [ inl mine ↦ inl mine | inr stays ↦ inr (among_back e (row_entries t row.rowid row.values) (entries_of_rows t (rest_of rows)) stays) ]

  pub cleared_back : (rows : List Row) (e : Entry) → Among e (entries_of_rows t (rest_of rows)) → Among e (entries_of_rows t rows)
  cleared_back [] e among = among
  cleared_back (row ∷ rows) e among = by_test (not (int_eq row.rowid old.rowid)) (cleared_back rows e) among
    where
      by_test : (stays : Bool) → (Among e (entries_of_rows t (rest_of rows)) → Among e (entries_of_rows t rows))
          → Among e (entries_of_rows t (if stays then row ∷ rest_of rows else rest_of rows)) → Among e (entries_of_rows t (row ∷ rows))
      by_test true rest here = elim (among_either e (row_entries t row.rowid row.values) (entries_of_rows t (rest_of rows)) here) [
        | inl mine ↦ among_front e (row_entries t row.rowid row.values) (entries_of_rows t rows) mine
        | inr later ↦ among_back e (row_entries t row.rowid row.values) (entries_of_rows t rows) (rest later)
      ]
      by_test false rest here = among_back e (row_entries t row.rowid row.values) (entries_of_rows t rows) (rest here)

  cleared_kept : (rows : List Row) → Single rows old → KeptRows (InAny (keys_of own)) t rows (rest_of rows)
  cleared_kept rows single = record {
    over = λ e off among. elim (own_or_stays rows single e among) [ inl mine ↦ absurd (off (at_own own e mine)) | inr stays ↦ stays ];
    back = λ e off among. cleared_back rows e among;
  }

-- each of the rows that are still to go is alone with its rowid
abbrev AllSingle : List Row → List Row → Type 0
AllSingle olds rows = AllByRecursion (Single rows) olds

module _ (t : Table) where
  clear_all : (olds : List Row) → IsConfined (IsOnlyWith (AllSingle olds) t) (λ done. Any) (for_each (clear_row t) olds)
  clear_all [] = λ db is. (kept_same (InAny []) db db refl, tt)
  clear_all (old ∷ olds) =
      next_confined (IsOnlyWith (AllSingle (old ∷ olds)) t) (λ done. IsOnlyWith (AllSingle olds) t) (λ done. Any) (clear_row t old) (λ done. for_each (clear_row t) olds)
      (λ db is. (
        rows_kept (InAny (keys_of (row_entries t old.rowid old.values))) t (without_row old.rowid) (AllSingle (old ∷ olds)) (λ rows all. cleared_kept t old rows all.0) db is,
        still_only (AllSingle (old ∷ olds)) (AllSingle olds) t (without_row old.rowid) db (λ rows all. all.1)
            (λ rows all. all_weaker (Single rows) (Single (without_row old.rowid rows)) olds (λ o single row among. single row (filtered (λ r. not (int_eq r.rowid old.rowid)) rows row among)) all.1) is,
      ))
      (λ done. clear_all olds)

  -- a database that has the table
  abbrev pub Holds : Database → Type 0
  Holds db = IsDatabase db × Has db t

  found_single : (olds : List Row) (db : Database) → Holds db × AllByRecursion (IsIn db t) olds → IsOnlyWith (AllSingle olds) t db
  found_single olds db is =
      all_from (λ (f : Filled). f.table.tree ≡ t.tree → (f.table ≡ t) × AllSingle olds f.rows) db (λ f among tree.
      let has = is.0.1 in
      let one : f ≡ has.filled = one_tree db f has.filled is.0.0 among has.among (tree ∙ sym (ap (λ (x : Table). x.tree) has.is)) in
      let rows : rows_in db t.tree ≡ f.rows = rows_found db t.tree f (λ g in_db same. one_tree db g f is.0.0 in_db among (same ∙ sym tree)) among tree in (
        ap (λ (g : Filled). g.table) one ∙ has.is,
        all_weaker (IsIn db t) (Single f.rows) olds (λ old here row there same. same_row db is.0.0 f row old among there (subst (λ l. Among old l) rows here) same) is.1,
      ))

  pub delete_confined : (conjuncts : List Bound) → IsConfined Holds (λ reply. Any) (delete t conjuncts)
  delete_confined conjuncts =
      next_confined Holds (λ rows db. Holds db × AllByRecursion (IsIn db t) rows) (λ reply. Any) (met_rows t conjuncts) (λ rows. next (for_each (clear_row t) rows) (λ all. give (done (length rows))))
      (finds_confined Holds (λ db. AllByRecursion (IsIn db t)) (met_rows t conjuncts) (λ db is. met_finds db t conjuncts))
      (λ rows db is. next_confined (IsOnlyWith (AllSingle rows) t) (λ done. Any) (λ reply. Any) (for_each (clear_row t) rows) (λ all. give (done (length rows)))
      (clear_all rows) (λ all. still_confined Any (give (done (length rows))) (λ d. refl)) db (found_single rows db is))
