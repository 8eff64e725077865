-- Rows that are put into a table and taken out of it: the entries of a database change at their keys alone.
use Rattle.std.proofs.Common.{◌≡◌, ℕ, List, [], ◌∷◌, ◌++◌, ◌⊎◌, inl, inr, flat_map, Bool, true, false, nat_eq, int_lt, if◌then◌else◌, refl, sym, subst}
use Rattle.std.specs.List.{AllByRecursion}
use Rattle.std.proofs.lemmas.Bool.Decides.{Decides-eqb}
use Rattle.hc_range.specs.Ranges.{InRange, InAny}
use Rattle.hc_key.specs.Keys.{key_bytes}
use Rattle.hc_base.specs.Lookup.{Among}
use Rattle.hc_schema.specs.declared.entry.Entry.{Entry}
use Rattle.hc_schema.specs.declared.table.Table.{Table}
use Rattle.hc_schema.specs.declared.row.Row.{Row}
use Rattle.hc_schema.specs.Cells.{row_entries, table_entries, name_entries}
use Rattle.hc_schema.specs.Databases.{Database, Filled, entries_of, filled_entries}
use Rattle.hc_schema.proofs.Orders.{among_front, among_back, among_either}
use Rattle.hc_sql.specs.Stored.{with_row, with_rows}
use Rattle.hc_sql.specs.Looks.{only}
use Rattle.hc_sql.specs.Tests.{keys_of}
use Rattle.hc_sql.proofs.Shared.{IsAt}
use Rattle.hc_sql.proofs.SharedRows.{key_in}
use Rattle.hc_sql.proofs.Kept.{Kept}

-- an entry of a list is at one of the list's keys
pub at_own : (entries : List Entry) (e : Entry) → Among e entries → IsAt (InAny (keys_of entries)) e
at_own [] e among = absurd among
at_own (d ∷ entries) e (inl same) = inl (subst (λ (x : Entry). InRange (only (key_bytes x.tree x.key)) (key_bytes e.tree e.key)) same (key_in (key_bytes e.tree e.key)))
at_own (d ∷ entries) e (inr later) = inr (at_own entries e later)

abbrev pub entries_of_rows : Table → List Row → List Entry
entries_of_rows t rows = flat_map (λ (row : Row). row_entries t row.rowid row.values) rows

-- rows have the same entries but at these keys
pub record KeptRows (Keys : List ℕ → Type 0) (t : Table) (rows others : List Row) : Type 0 where
  pub over : (e : Entry) → (IsAt Keys e → ⊥) → Among e (entries_of_rows t rows) → Among e (entries_of_rows t others)
  pub back : (e : Entry) → (IsAt Keys e → ⊥) → Among e (entries_of_rows t others) → Among e (entries_of_rows t rows)

-- ---- a row that is put in

pub either : {P : Type 0} (e : Entry) (xs ys : List Entry) → Among e (xs ++ ys) → (Among e xs → P) → (Among e ys → P) → P
either e xs ys among left right = elim (among_either e xs ys among) [ inl front ↦ left front | inr rest ↦ right rest ]

module _ (t : Table) (new : Row) where
  abbrev own : List Entry
  own = row_entries t new.rowid new.values

  pub put_over : (rows : List Row) (e : Entry) → Among e (entries_of_rows t rows) → Among e (entries_of_rows t (with_row new rows))
  put_over [] e among = absurd among
  put_over (row ∷ rows) e among = by_test (int_lt row.rowid new.rowid)
      (either e (row_entries t row.rowid row.values) (entries_of_rows t rows) among
      (λ front. among_front e (row_entries t row.rowid row.values) (entries_of_rows t (with_row new rows)) front)
      (λ rest. among_back e (row_entries t row.rowid row.values) (entries_of_rows t (with_row new rows)) (put_over rows e rest)))
    where
      by_test : (less : Bool) → Among e (entries_of_rows t (row ∷ with_row new rows)) → Among e (entries_of_rows t (if less then row ∷ with_row new rows else new ∷ row ∷ rows))
      by_test true later = later
      by_test false later = among_back e own (entries_of_rows t (row ∷ rows)) among

  pub put_back : (rows : List Row) (e : Entry) → Among e (entries_of_rows t (with_row new rows)) → Among e own ⊎ Among e (entries_of_rows t rows)
  put_back [] e among = either e own [] among (λ front. inl front) (λ rest. absurd rest)
  put_back (row ∷ rows) e among = by_test (int_lt row.rowid new.rowid) (put_back rows e) among
    where
      by_test : (less : Bool) → (Among e (entries_of_rows t (with_row new rows)) → Among e own ⊎ Among e (entries_of_rows t rows))
          → Among e (entries_of_rows t (if less then row ∷ with_row new rows else new ∷ row ∷ rows)) → Among e own ⊎ Among e (entries_of_rows t (row ∷ rows))
      by_test true rest here =
          either e (row_entries t row.rowid row.values) (entries_of_rows t (with_row new rows)) here
          (λ front. inr (among_front e (row_entries t row.rowid row.values) (entries_of_rows t rows) front))
          (λ later. elim (rest later) [ inl mine ↦ inl mine | inr old ↦ inr (among_back e (row_entries t row.rowid row.values) (entries_of_rows t rows) old) ])
      by_test false rest here = either e own (entries_of_rows t (row ∷ rows)) here (λ front. inl front) (λ later. inr later)

  pub put_own : (rows : List Row) (e : Entry) → Among e own → Among e (entries_of_rows t (with_row new rows))
  put_own [] e mine = among_front e own [] mine
  put_own (row ∷ rows) e mine = by_test (int_lt row.rowid new.rowid) (put_own rows e mine)
    where
      by_test : (less : Bool) → Among e (entries_of_rows t (with_row new rows)) → Among e (entries_of_rows t (if less then row ∷ with_row new rows else new ∷ row ∷ rows))
      by_test true later = among_back e (row_entries t row.rowid row.values) (entries_of_rows t (with_row new rows)) later
      by_test false later = among_front e own (entries_of_rows t (row ∷ rows)) mine

  pub put_kept : (rows : List Row) → KeptRows (InAny (keys_of own)) t rows (with_row new rows)
  put_kept rows = record {
    over = λ e off among. put_over rows e among;
    back = λ e off among. elim (put_back rows e among) [ inl mine ↦ absurd (off (at_own own e mine)) | inr old ↦ old ];
  }

-- ---- other rows for a table

-- the table with this tree is this one, and its rows have P
abbrev pub IsOnlyWith : (List Row → Type 0) → Table → Database → Type 0
IsOnlyWith P t db = AllByRecursion (λ (f : Filled). f.table.tree ≡ t.tree → (f.table ≡ t) × P f.rows) db

module _ (Keys : List ℕ → Type 0) (t : Table) (into : List Row → List Row) (P : List Row → Type 0) (kept : (rows : List Row) → P rows → KeptRows Keys t rows (into rows)) where
  -- the entries of the table in the catalog stay
  pub one_over : (f : Filled) → f.table ≡ t → P f.rows → (e : Entry) → (IsAt Keys e → ⊥) → Among e (filled_entries f) → Among e (filled_entries (record { table = f.table; rows = into f.rows }))
  one_over f same holds e off among =
      either e (table_entries f.table) (name_entries f.table ++ entries_of_rows f.table f.rows) among
      (λ front. among_front e (table_entries f.table) (name_entries f.table ++ entries_of_rows f.table (into f.rows)) front)
      (λ rest. among_back e (table_entries f.table) (name_entries f.table ++ entries_of_rows f.table (into f.rows))
      (either e (name_entries f.table) (entries_of_rows f.table f.rows) rest
      (λ front. among_front e (name_entries f.table) (entries_of_rows f.table (into f.rows)) front)
      (λ rows. among_back e (name_entries f.table) (entries_of_rows f.table (into f.rows))
      (subst (λ x. Among e (entries_of_rows x (into f.rows))) (sym same) ((kept f.rows holds).over e off (subst (λ x. Among e (entries_of_rows x f.rows)) same rows))))))

  pub one_back : (f : Filled) → f.table ≡ t → P f.rows → (e : Entry) → (IsAt Keys e → ⊥) → Among e (filled_entries (record { table = f.table; rows = into f.rows })) → Among e (filled_entries f)
  one_back f same holds e off among =
      either e (table_entries f.table) (name_entries f.table ++ entries_of_rows f.table (into f.rows)) among
      (λ front. among_front e (table_entries f.table) (name_entries f.table ++ entries_of_rows f.table f.rows) front)
      (λ rest. among_back e (table_entries f.table) (name_entries f.table ++ entries_of_rows f.table f.rows)
      (either e (name_entries f.table) (entries_of_rows f.table (into f.rows)) rest
      (λ front. among_front e (name_entries f.table) (entries_of_rows f.table f.rows) front)
      (λ rows. among_back e (name_entries f.table) (entries_of_rows f.table f.rows)
      (subst (λ x. Among e (entries_of_rows x f.rows)) (sym same) ((kept f.rows holds).back e off (subst (λ x. Among e (entries_of_rows x (into f.rows))) same rows))))))

  rows_over : (db : Database) → IsOnlyWith P t db → (e : Entry) → (IsAt Keys e → ⊥) → Among e (entries_of db) → Among e (entries_of (with_rows t.tree into db))
  rows_over [] is e off among = among
  rows_over (f ∷ db) is e off among = by_test (nat_eq f.table.tree t.tree) refl (rows_over db is.1 e off)
    where
      by_test : (here : Bool) → nat_eq f.table.tree t.tree ≡ here → (Among e (entries_of db) → Among e (entries_of (with_rows t.tree into db)))
          → Among e (entries_of (if here then record { table = f.table; rows = into f.rows } ∷ db else f ∷ with_rows t.tree into db))
      by_test true same rest =
          either e (filled_entries f) (entries_of db) among
          (λ front. among_front e (filled_entries (record { table = f.table; rows = into f.rows })) (entries_of db) (let here = is.0 ((Decides-eqb f.table.tree t.tree).0 same) in one_over f here.0 here.1 e off front))
          (λ later. among_back e (filled_entries (record { table = f.table; rows = into f.rows })) (entries_of db) later)
      by_test false same rest =
          either e (filled_entries f) (entries_of db) among
          (λ front. among_front e (filled_entries f) (entries_of (with_rows t.tree into db)) front)
          (λ later. among_back e (filled_entries f) (entries_of (with_rows t.tree into db)) (rest later))

  rows_back : (db : Database) → IsOnlyWith P t db → (e : Entry) → (IsAt Keys e → ⊥) → Among e (entries_of (with_rows t.tree into db)) → Among e (entries_of db)
  rows_back [] is e off among = among
  rows_back (f ∷ db) is e off among = by_test (nat_eq f.table.tree t.tree) refl (rows_back db is.1 e off) among
    where
      by_test : (here : Bool) → nat_eq f.table.tree t.tree ≡ here → (Among e (entries_of (with_rows t.tree into db)) → Among e (entries_of db))
          → Among e (entries_of (if here then record { table = f.table; rows = into f.rows } ∷ db else f ∷ with_rows t.tree into db)) → Among e (entries_of (f ∷ db))
      by_test true same rest there =
          either e (filled_entries (record { table = f.table; rows = into f.rows })) (entries_of db) there
          (λ front. among_front e (filled_entries f) (entries_of db) (let here = is.0 ((Decides-eqb f.table.tree t.tree).0 same) in one_back f here.0 here.1 e off front))
          (λ later. among_back e (filled_entries f) (entries_of db) later)
      by_test false same rest there =
          either e (filled_entries f) (entries_of (with_rows t.tree into db)) there
          (λ front. among_front e (filled_entries f) (entries_of db) front)
          (λ later. among_back e (filled_entries f) (entries_of db) (rest later))

  pub rows_kept : (db : Database) → IsOnlyWith P t db → Kept Keys db (with_rows t.tree into db)
  rows_kept db is = record { over = rows_over db is; back = rows_back db is }

-- the table stays the only one, and what its rows have by then they have
pub still_only : (P Q : List Row → Type 0) (t : Table) (into : List Row → List Row) (db : Database) → ((rows : List Row) → P rows → Q rows) → ((rows : List Row) → P rows → Q (into rows))
    → IsOnlyWith P t db → IsOnlyWith Q t (with_rows t.tree into db)
still_only P Q t into [] stays comes is = tt
still_only P Q t into (f ∷ db) stays comes is = by_test (nat_eq f.table.tree t.tree) (still_only P Q t into db stays comes is.1)
  where
    by_test : (here : Bool) → IsOnlyWith Q t (with_rows t.tree into db) → IsOnlyWith Q t (if here then record { table = f.table; rows = into f.rows } ∷ db else f ∷ with_rows t.tree into db)
    by_test true rest = ((λ same. let both = is.0 same in (both.0, comes f.rows both.1)), only_rest db is.1)
      where
        only_rest : (others : Database) → IsOnlyWith P t others → IsOnlyWith Q t others
        only_rest [] all = tt
        only_rest (g ∷ others) all = ((λ same. let both = all.0 same in (both.0, stays g.rows both.1)), only_rest others all.1)
    by_test false rest = ((λ same. let both = is.0 same in (both.0, stays f.rows both.1)), rest)
