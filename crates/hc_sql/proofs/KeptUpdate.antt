-- UPDATE changes no key but those that it reads.
use Rattle.std.proofs.Common.{◌≡◌, ℕ, List, [], ◌∷◌, ◌++◌, ◌⊎◌, inl, inr, map, length, Option, Some, None, Bool, true, false, not, nat_eq, int_lt, if◌then◌else◌, Result, Ok, Err, refl, sym, ap, subst, ◌∙◌}
use Rattle.std.specs.List.{AllByRecursion, filter}
use Rattle.std.specs.Option.{option_map, option_and_then, is_some}
use Rattle.std.specs.Ordering.{int_eq}
use Rattle.std.specs.FinMap.{IsAntisymmetric}
use Rattle.std.proofs.lemmas.Bool.{true≢false}
use Rattle.std.proofs.lemmas.Bool.Decides.{Decides-eqb, Decides-int_eq}
use Rattle.hc_range.specs.declared.range.Range.{Range}
use Rattle.hc_range.specs.Ranges.{InAny}
use Rattle.hc_value.specs.declared.value.Value.{Value}
use Rattle.hc_value.specs.declared.value.Value.TheVariants.{Int}
use Rattle.hc_value.specs.Order.{value_order}
use Rattle.hc_key.specs.Keys.{key_bytes}
use Rattle.hc_ast.specs.declared.bound.Bound.{Bound}
use Rattle.hc_base.specs.Lookup.{Among}
use Rattle.hc_transcript.specs.declared.refusal.Refusal.{Refusal}
use Rattle.hc_transcript.specs.declared.refusal.Refusal.TheVariants as refusal
use Rattle.hc_expr.specs.Values.{values_of}
use Rattle.hc_schema.specs.declared.entry.Entry.{Entry}
use Rattle.hc_schema.specs.declared.table.Table.{Table}
use Rattle.hc_schema.specs.declared.table.Index.{Index}
use Rattle.hc_schema.specs.declared.row.Row.{Row}
use Rattle.hc_schema.specs.declared.bound_statement.BoundSet.{BoundSet}
use Rattle.hc_schema.specs.Cells.{row_entry, row_entries, row_index_entry}
use Rattle.hc_schema.specs.Databases.{Database, Filled, IsFilled, entries_of, filled_entries}
use Rattle.hc_schema.proofs.Orders.{Ordered, among_front, among_back, among_map, among_flat, from_map, all_among}
use Rattle.hc_schema.proofs.SamePlaces.{all_weaker, one_tree, rows_ordered}
use Rattle.hc_schema.proofs.OneRecord.{same_row}
use Rattle.hc_sql.specs.Work.{Work, give, next, for_each, need, refuse_if}
use Rattle.hc_sql.specs.Stored.{rows_in, row_at, with_row, without_row, with_rows}
use Rattle.hc_sql.specs.Looks.{same_values, find_row}
use Rattle.hc_sql.specs.Grouping.{all_some}
use Rattle.hc_sql.specs.Tests.{null_refused, test_nulls, alias_name, test_rowid, test_indexes, too_long, test_lengths, keys_of}
use Rattle.hc_sql.specs.Results.{done}
use Rattle.hc_sql.specs.Update.{met_rows, Change, with_sets, changed_to, changed, is_moved, has_new_values, has_new_key, set_entries, left_entry, cleared_entries, exchange, put_change, test_moved, change_row, update}
use Rattle.hc_sql.proofs.Endings.{OnValue}
use Rattle.hc_sql.proofs.DecidedLooks.{Any, OnFound}
use Rattle.hc_sql.proofs.DifferentRows.{DifferentRowids, ascending_differ, met_differ}
use Rattle.hc_sql.proofs.Finds.{Finds, IsIn, next_finds, finds_confined, met_finds}
use Rattle.hc_sql.proofs.Firsts.{are_same}
use Rattle.hc_sql.proofs.Kept.{Kept, IsConfined, kept_same, next_confined, still_confined, unless_still}
use Rattle.hc_sql.proofs.KeptDelete.{Single, Holds, filtered, own_or_stays, cleared_back}
use Rattle.hc_sql.proofs.KeptIndexes.{passes, only_with}
use Rattle.hc_sql.proofs.KeptInsert.{indexes_still}
use Rattle.hc_sql.proofs.KeptRows.{KeptRows, IsOnlyWith, at_own, either, put_over, put_back, put_own, one_over, one_back, still_only}
use Rattle.hc_sql.proofs.Searches.{search_row, rows_found}
use Rattle.hc_sql.proofs.Shared.{IsAt}

-- ---- a changed row

not_false : (b : Bool) → not b ≡ false → b ≡ true
not_false true is = refl
not_false false is = sym is

module _ (exact : IsAntisymmetric value_order) (t : Table) (c : Change) where
  abbrev changed_keys : List Range
  changed_keys = keys_of (set_entries t c ++ cleared_entries t c)

  abbrev AtKeys : Entry → Type 0
  AtKeys e = IsAt (InAny changed_keys) e

  abbrev old_entries : List Entry
  old_entries = row_entries t c.old.rowid c.old.values

  abbrev new_entries : List Entry
  new_entries = row_entries t c.new.rowid c.new.values

  abbrev old_indexed : Index → Entry
  old_indexed = row_index_entry c.old.rowid c.old.values

  abbrev new_indexed : Index → Entry
  new_indexed = row_index_entry c.new.rowid c.new.values

  at_set : (e : Entry) → Among e (set_entries t c) → AtKeys e
  at_set e among = at_own (set_entries t c ++ cleared_entries t c) e (among_front e (set_entries t c) (cleared_entries t c) among)

  at_cleared : (e : Entry) → Among e (cleared_entries t c) → AtKeys e
  at_cleared e among = at_own (set_entries t c ++ cleared_entries t c) e (among_back e (set_entries t c) (cleared_entries t c) among)

  abbrev entry_with : ℕ → List Value → Entry
  entry_with tree key = record { tree = tree; key = key; values = [] }

  -- in an index where its key is the same, its entry is the same
  same_indexed : (index : Index) → has_new_key c index ≡ false → old_indexed index ≡ new_indexed index
  same_indexed index is =
      ap (entry_with index.tree)
      (are_same exact (old_indexed index).key (new_indexed index).key (not_false (same_values (old_indexed index).key (new_indexed index).key) is))

  old_index : (index : Index) → Among index t.indexes → AtKeys (old_indexed index) ⊎ Among (old_indexed index) new_entries
  old_index index listed = by_test (has_new_key c index) refl
    where
      by_test : (new : Bool) → has_new_key c index ≡ new → AtKeys (old_indexed index) ⊎ Among (old_indexed index) new_entries
      by_test true is =
          inl (at_cleared (old_indexed index) (among_back (old_indexed index) (left_entry t c) (map old_indexed (filter (has_new_key c) t.indexes))
          (among_map old_indexed index (filter (has_new_key c) t.indexes) (passes (has_new_key c) t.indexes index is listed))))
      by_test false is = inr (inr (subst (λ (e : Entry). Among e (map new_indexed t.indexes)) (sym (same_indexed index is)) (among_map new_indexed index t.indexes listed)))

  new_index : (index : Index) → Among index t.indexes → AtKeys (new_indexed index) ⊎ Among (new_indexed index) old_entries
  new_index index listed = by_test (has_new_key c index) refl
    where
      by_test : (new : Bool) → has_new_key c index ≡ new → AtKeys (new_indexed index) ⊎ Among (new_indexed index) old_entries
      by_test true is =
          inl (at_set (new_indexed index) (inr (among_map new_indexed index (filter (has_new_key c) t.indexes) (passes (has_new_key c) t.indexes index is listed))))
      by_test false is = inr (inr (subst (λ (e : Entry). Among e (map old_indexed t.indexes)) (same_indexed index is) (among_map old_indexed index t.indexes listed)))

  old_row : AtKeys (row_entry t c.old.rowid c.old.values)
  old_row = by_test (is_moved c) refl
    where
      by_test : (moved : Bool) → is_moved c ≡ moved → AtKeys (row_entry t c.old.rowid c.old.values)
      by_test true is =
          let e = row_entry t c.old.rowid c.old.values in
          at_cleared e (among_front e (left_entry t c) (map old_indexed (filter (has_new_key c) t.indexes)) (subst (λ b. Among e (if b then e ∷ [] else [])) (sym is) (inl refl)))
      by_test false is =
          let same : c.old.rowid ≡ c.new.rowid = (Decides-int_eq c.old.rowid c.new.rowid).0 (not_false (int_eq c.old.rowid c.new.rowid) is) in
          subst (λ n. InAny changed_keys (key_bytes t.tree (Int n ∷ []))) (sym same) (at_set (row_entry t c.new.rowid c.new.values) (inl refl))

  -- an entry of the old row is at the keys, or the new row has it
  from_old : (e : Entry) → Among e old_entries → AtKeys e ⊎ Among e new_entries
  from_old e (inl same) = inl (subst AtKeys (sym same) old_row)
  from_old e (inr indexed) =
      let from = from_map old_indexed e t.indexes indexed in
      elim (old_index from.x from.among) [ inl at ↦ inl (subst AtKeys (sym from.is) at) | inr new ↦ inr (subst (λ (d : Entry). Among d new_entries) (sym from.is) new) ]

  from_new : (e : Entry) → Among e new_entries → AtKeys e ⊎ Among e old_entries
  from_new e (inl same) = inl (at_set e (inl same))
  from_new e (inr indexed) =
      let from = from_map new_indexed e t.indexes indexed in
      elim (new_index from.x from.among) [ inl at ↦ inl (subst AtKeys (sym from.is) at) | inr old ↦ inr (subst (λ (d : Entry). Among d old_entries) (sym from.is) old) ]

  exchanged : (rows : List Row) → Single rows c.old → Among c.old rows → KeptRows (InAny changed_keys) t rows (exchange c rows)
  exchanged rows single present = record {
    over = λ e off among. elim (own_or_stays t c.old rows single e among) [
      | inl mine ↦ elim (from_old e mine) [ inl at ↦ absurd (off at) | inr new ↦ put_own t c.new (without_row c.old.rowid rows) e new ]
      | inr stays ↦ put_over t c.new (without_row c.old.rowid rows) e stays
    ];
    back = λ e off among. elim (put_back t c.new (without_row c.old.rowid rows) e among) [
      | inl mine ↦ elim (from_new e mine) [ inl at ↦ absurd (off at) | inr old ↦ among_flat (λ (row : Row). row_entries t row.rowid row.values) e c.old rows present old ]
      | inr stays ↦ cleared_back t c.old rows e stays
    ];
  }

-- ---- the rows that are found by a tree

module _ (Keys : List ℕ → Type 0) (t : Table) (into : List Row → List Row) where
  abbrev IsKeptIn : List Row → Type 0
  IsKeptIn rows = KeptRows Keys t rows (into rows)

  abbrev with_into : Filled → Filled
  with_into f = record { table = f.table; rows = into f.rows }

  first_over : (db : Database) → IsOnlyWith Any t db → IsKeptIn (rows_in db t.tree) → (e : Entry) → (IsAt Keys e → ⊥) → Among e (entries_of db) → Among e (entries_of (with_rows t.tree into db))
  first_over [] is kept e off among = among
  first_over (f ∷ db) is kept e off among = by_test (nat_eq f.table.tree t.tree) refl kept (λ k. first_over db is.1 k e off)
    where
      by_test : (here : Bool) → nat_eq f.table.tree t.tree ≡ here → IsKeptIn (if here then f.rows else rows_in db t.tree)
          → (IsKeptIn (rows_in db t.tree) → Among e (entries_of db) → Among e (entries_of (with_rows t.tree into db)))
          → Among e (entries_of (if here then with_into f ∷ db else f ∷ with_rows t.tree into db))
      by_test true same kept rest =
          either e (filled_entries f) (entries_of db) among
          (λ front. among_front e (filled_entries (with_into f)) (entries_of db)
          (one_over Keys t into IsKeptIn (λ rows k. k) f (is.0 ((Decides-eqb f.table.tree t.tree).0 same)).0 kept e off front))
          (λ later. among_back e (filled_entries (with_into f)) (entries_of db) later)
      by_test false same kept rest =
          either e (filled_entries f) (entries_of db) among
          (λ front. among_front e (filled_entries f) (entries_of (with_rows t.tree into db)) front)
          (λ later. among_back e (filled_entries f) (entries_of (with_rows t.tree into db)) (rest kept later))

  first_back : (db : Database) → IsOnlyWith Any t db → IsKeptIn (rows_in db t.tree) → (e : Entry) → (IsAt Keys e → ⊥) → Among e (entries_of (with_rows t.tree into db)) → Among e (entries_of db)
  first_back [] is kept e off among = among
  first_back (f ∷ db) is kept e off among = by_test (nat_eq f.table.tree t.tree) refl kept (λ k. first_back db is.1 k e off) among
    where
      by_test : (here : Bool) → nat_eq f.table.tree t.tree ≡ here → IsKeptIn (if here then f.rows else rows_in db t.tree)
          → (IsKeptIn (rows_in db t.tree) → Among e (entries_of (with_rows t.tree into db)) → Among e (entries_of db))
          → Among e (entries_of (if here then with_into f ∷ db else f ∷ with_rows t.tree into db)) → Among e (entries_of (f ∷ db))
      by_test true same kept rest there =
          either e (filled_entries (with_into f)) (entries_of db) there
          (λ front. among_front e (filled_entries f) (entries_of db)
          (one_back Keys t into IsKeptIn (λ rows k. k) f (is.0 ((Decides-eqb f.table.tree t.tree).0 same)).0 kept e off front))
          (λ later. among_back e (filled_entries f) (entries_of db) later)
      by_test false same kept rest there =
          either e (filled_entries f) (entries_of (with_rows t.tree into db)) there
          (λ front. among_front e (filled_entries f) (entries_of db) front)
          (λ later. among_back e (filled_entries f) (entries_of db) (rest kept later))

  first_kept : (db : Database) → IsOnlyWith Any t db → IsKeptIn (rows_in db t.tree) → Kept Keys db (with_rows t.tree into db)
  first_kept db is kept = record { over = first_over db is kept; back = first_back db is kept }

rows_after : (tree : ℕ) (into : List Row → List Row) (db : Database) (row : Row) → Among row (rows_in db tree) → rows_in (with_rows tree into db) tree ≡ into (rows_in db tree)
rows_after tree into [] row among = absurd among
rows_after tree into (f ∷ db) row among = by_test (nat_eq f.table.tree tree) refl among (rows_after tree into db row)
  where
    by_test : (here : Bool) → nat_eq f.table.tree tree ≡ here → Among row (if here then f.rows else rows_in db tree)
        → (Among row (rows_in db tree) → rows_in (with_rows tree into db) tree ≡ into (rows_in db tree))
        → rows_in (if here then record { table = f.table; rows = into f.rows } ∷ db else f ∷ with_rows tree into db) tree ≡ into (if here then f.rows else rows_in db tree)
    by_test true is there rest = ap (λ b. if b then into f.rows else rows_in db tree) is
    by_test false is there rest = ap (λ b. if b then f.rows else rows_in (with_rows tree into db) tree) is ∙ rest there

-- ---- rows in a list

row_stays : (new row : Row) (rows : List Row) → Among row rows → Among row (with_row new rows)
row_stays new row [] among = absurd among
row_stays new row (r ∷ rows) among = by_test (int_lt r.rowid new.rowid) among (row_stays new row rows)
  where
    by_test : (less : Bool) → Among row (r ∷ rows) → (Among row rows → Among row (with_row new rows)) → Among row (if less then r ∷ with_row new rows else new ∷ r ∷ rows)
    by_test true (inl one) rest = inl one
    by_test true (inr later) rest = inr (rest later)
    by_test false here rest = inr here

new_or_old : (new row : Row) (rows : List Row) → Among row (with_row new rows) → (row ≡ new) ⊎ Among row rows
new_or_old new row [] (inl one) = inl one
new_or_old new row [] (inr never) = absurd never
new_or_old new row (r ∷ rows) among = by_test (int_lt r.rowid new.rowid) among (new_or_old new row rows)
  where
    by_test : (less : Bool) → Among row (if less then r ∷ with_row new rows else new ∷ r ∷ rows) → (Among row (with_row new rows) → (row ≡ new) ⊎ Among row rows) → (row ≡ new) ⊎ Among row (r ∷ rows)
    by_test true (inl one) rest = inr (inl one)
    by_test true (inr later) rest = elim (rest later) [ inl one ↦ inl one | inr old ↦ inr (inr old) ]
    by_test false (inl one) rest = inl one
    by_test false (inr old) rest = inr old

-- ---- changes that are still to come

-- the rows have the old row, and no other with its rowid
abbrev Stands : List Row → Change → Type 0
Stands rows c = Single rows c.old × Among c.old rows

-- where the row gets another rowid, no row has it
abbrev IsFree : Change → List Row → Type 0
IsFree c rows = is_moved c ≡ true → (row : Row) → Among row rows → row.rowid ≡ c.new.rowid → ⊥

abbrev Apart : Change → Change → Type 0
Apart c d = c.old.rowid ≡ d.old.rowid → ⊥

not_new : (c d : Change) (rows : List Row) → Apart c d → IsFree c rows → Stands rows d → c.new.rowid ≡ d.old.rowid → ⊥
not_new c d rows apart free stands same = by_test (is_moved c) refl
  where
    by_test : (moved : Bool) → is_moved c ≡ moved → ⊥
    by_test true is = free is d.old stands.1 (sym same)
    by_test false is = apart ((Decides-int_eq c.old.rowid c.new.rowid).0 (not_false (int_eq c.old.rowid c.new.rowid) is) ∙ same)

stands_after : (c d : Change) (rows : List Row) → Apart c d → IsFree c rows → Stands rows d → Stands (exchange c rows) d
stands_after c d rows apart free stands = (single, row_stays c.new d.old (without_row c.old.rowid rows) (passes stays_there rows d.old (by_test (int_eq d.old.rowid c.old.rowid) refl) stands.1))
  where
    stays_there : Row → Bool
    stays_there row = not (int_eq row.rowid c.old.rowid)

    by_test : (same : Bool) → int_eq d.old.rowid c.old.rowid ≡ same → not (int_eq d.old.rowid c.old.rowid) ≡ true
    by_test true is = absurd (apart (sym ((Decides-int_eq d.old.rowid c.old.rowid).0 is)))
    by_test false is = ap not is

    single : Single (exchange c rows) d.old
    single row among same = elim (new_or_old c.new row (without_row c.old.rowid rows) among) [
      | inl one ↦ absurd (not_new c d rows apart free stands (subst (λ (r : Row). r.rowid ≡ d.old.rowid) one same))
      | inr old ↦ stands.0 row (filtered (λ (r : Row). not (int_eq r.rowid c.old.rowid)) rows row old) same
    ]

all_after : (c : Change) (rows : List Row) (cs : List Change) → AllByRecursion (Apart c) cs → IsFree c rows → AllByRecursion (Stands rows) cs → AllByRecursion (Stands (exchange c rows)) cs
all_after c rows [] apart free all = tt
all_after c rows (d ∷ cs) apart free all = (stands_after c d rows apart.0 free all.0, all_after c rows cs apart.1 free all.1)

module _ (exact : IsAntisymmetric value_order) (t : Table) where
  abbrev Standing : List Change → Database → Type 0
  Standing cs db = IsOnlyWith Any t db × AllByRecursion (Stands (rows_in db t.tree)) cs

  module _ (c : Change) (cs : List Change) (apart : AllByRecursion (Apart c) cs) where
    abbrev Ready : Database → Type 0
    Ready db = Standing (c ∷ cs) db × IsFree c (rows_in db t.tree)

    none_there : (rows : List Row) → row_at c.new.rowid rows ≡ None → (row : Row) → Among row rows → row.rowid ≡ c.new.rowid → ⊥
    none_there rows is row among same = elim (search_row c.new.rowid rows) [
      | inl none ↦ none.1 row among same
      | inr found ↦ true≢false (ap is_some (sym found.3 ∙ is))
    ]

    none_met : (db : Database) (found : Option Row) → row_at c.new.rowid (rows_in db t.tree) ≡ found → Finds db (λ done. IsFree c (rows_in db t.tree)) (refuse_if (is_some found) (refusal.Primary t.name (alias_name t)))
    none_met db None is = (refl, λ moved. none_there (rows_in db t.tree) is)
    none_met db (Some row) is = (refl, tt)

    free_found : (db : Database) → Finds db (λ done. IsFree c (rows_in db t.tree)) (test_moved t c)
    free_found db = by_test (is_moved c) refl
      where
        by_test : (moved : Bool) → is_moved c ≡ moved → Finds db (λ done. IsFree c (rows_in db t.tree)) (if moved then test_rowid t c.new.rowid else give tt)
        by_test true is =
            next_finds db (λ found. row_at c.new.rowid (rows_in db t.tree) ≡ found) (λ done. IsFree c (rows_in db t.tree)) (find_row t c.new.rowid)
            (λ found. refuse_if (is_some found) (refusal.Primary t.name (alias_name t))) (refl, refl) (none_met db)
        by_test false is = (refl, λ moved. absurd (true≢false (sym moved ∙ is)))

    put_confined : IsConfined Ready (λ done. Standing cs) (put_change t c)
    put_confined db is =
        let rows = rows_in db t.tree in
        let stands = is.0.1.0 in (
          first_kept (InAny (keys_of (set_entries t c ++ cleared_entries t c))) t (exchange c) db is.0.0 (exchanged exact t c rows stands.0 stands.1),
          (
            still_only Any Any t (exchange c) db (λ r any. tt) (λ r any. tt) is.0.0,
            subst (λ r. AllByRecursion (Stands r) cs) (sym (rows_after t.tree (exchange c) db c.old stands.1)) (all_after c rows cs apart is.1 is.0.1.1),
          ),
        )

    row_confined : IsConfined (Standing (c ∷ cs)) (λ done. Standing cs) (change_row t c)
    row_confined =
        let indexes = filter (has_new_values c) t.indexes in
        next_confined (Standing (c ∷ cs)) (λ done. Standing (c ∷ cs)) (λ done. Standing cs) (test_nulls t c.new.values)
        (λ nulls. next (test_moved t c) (λ moved. next (test_indexes t indexes c.new.values) (λ tested. next (test_lengths (set_entries t c)) (λ lengths. put_change t c))))
        (still_confined (Standing (c ∷ cs)) (test_nulls t c.new.values) (unless_still (option_map (λ column. refusal.NotNull t.name column.name) (null_refused t.columns c.new.values))))
        (λ nulls. next_confined (Standing (c ∷ cs)) (λ done. Ready) (λ done. Standing cs) (test_moved t c)
        (λ moved. next (test_indexes t indexes c.new.values) (λ tested. next (test_lengths (set_entries t c)) (λ lengths. put_change t c)))
        (finds_confined (Standing (c ∷ cs)) (λ db done. IsFree c (rows_in db t.tree)) (test_moved t c) (λ db is. free_found db))
        (λ moved. next_confined Ready (λ done. Ready) (λ done. Standing cs) (test_indexes t indexes c.new.values) (λ tested. next (test_lengths (set_entries t c)) (λ lengths. put_change t c))
        (still_confined Ready (test_indexes t indexes c.new.values) (indexes_still t indexes c.new.values))
        (λ tested. next_confined Ready (λ done. Ready) (λ done. Standing cs) (test_lengths (set_entries t c)) (λ lengths. put_change t c)
        (still_confined Ready (test_lengths (set_entries t c)) (unless_still (too_long (set_entries t c)))) (λ lengths. put_confined))))

  changes_confined : (cs : List Change) → Ordered Apart cs → IsConfined (Standing cs) (λ done. Any) (for_each (change_row t) cs)
  changes_confined [] apart = λ db is. (kept_same (InAny []) db db refl, tt)
  changes_confined (c ∷ cs) apart =
      next_confined (Standing (c ∷ cs)) (λ done. Standing cs) (λ done. Any) (change_row t c) (λ done. for_each (change_row t) cs) (row_confined c cs apart.0) (λ done. changes_confined cs apart.1)

-- ---- the changes of an UPDATE

finds_both : {A : Type 0} (db : Database) (P Q : A → Type 0) (work : Work A) → Finds db P work → Finds db Q work → Finds db (λ x. P x × Q x) work
finds_both {A} db P Q work one other = (one.0, by_result (work db).result one.1 other.1)
  where
    by_result : (r : Result A Refusal) → OnValue P r → OnValue Q r → OnValue (λ x. P x × Q x) r
    by_result (Ok x) p q = (p, q)
    by_result (Err refusal) p q = tt

need_finds_it : {A : Type 0} (db : Database) (P : A → Type 0) (missing : Refusal) (found : Option A) → OnFound P found → Finds db P (need missing found)
need_finds_it db P missing None holds = (refl, tt)
need_finds_it db P missing (Some x) holds = (refl, holds)

abbrev olds_of : List Change → List Row
olds_of cs = map (λ (c : Change). c.old) cs

-- the changes are of these rows
changes_of : (t : Table) (sets : List BoundSet) (rows : List Row) → OnFound (λ cs. olds_of cs ≡ rows) (all_some (map (changed t sets) rows))
changes_of t sets [] = refl
changes_of t sets (row ∷ rows) = by_values (values_of row.values (map (λ (s : BoundSet). s.value) sets)) (all_some (map (changed t sets) rows)) (changes_of t sets rows)
  where
    by_values : (given : Option (List Value)) (rest : Option (List Change)) → OnFound (λ cs. olds_of cs ≡ rows) rest
        → OnFound (λ cs. olds_of cs ≡ row ∷ rows) (option_and_then (λ (c : Change). option_map (λ others. c ∷ others) rest) (option_map (λ values. changed_to t row (with_sets sets values row.values)) given))
    by_values None rest of = tt
    by_values (Some values) None of = tt
    by_values (Some values) (Some cs) of = ap (λ others. row ∷ others) of

all_of_olds : (P : Row → Type 0) (cs : List Change) → AllByRecursion P (olds_of cs) → AllByRecursion (λ (c : Change). P c.old) cs
all_of_olds P [] all = tt
all_of_olds P (c ∷ cs) all = (all.0, all_of_olds P cs all.1)

all_apart : (cs : List Change) → DifferentRowids (olds_of cs) → Ordered Apart cs
all_apart [] differ = tt
all_apart (c ∷ cs) differ = (all_of_olds (λ (row : Row). c.old.rowid ≡ row.rowid → ⊥) cs differ.0, all_apart cs differ.1)

module _ (exact : IsAntisymmetric value_order) (t : Table) (sets : List BoundSet) (conjuncts : List Bound) where
  -- the rows of the table in the database
  module _ (db : Database) (is : Holds t db) where
    its_rows : rows_in db t.tree ≡ is.1.filled.rows
    its_rows =
        let tree : is.1.filled.table.tree ≡ t.tree = ap (λ (x : Table). x.tree) is.1.is in
        rows_found db t.tree is.1.filled (λ g in_db same. one_tree db g is.1.filled is.0 in_db is.1.among (same ∙ sym tree)) is.1.among tree

    rows_differ : DifferentRowids (rows_in db t.tree)
    rows_differ = subst DifferentRowids (sym its_rows) (ascending_differ is.1.filled.rows (rows_ordered is.1.filled.rows (all_among IsFilled is.1.filled db is.0.filled is.1.among).ascend))

    stands : (row : Row) → IsIn db t row → Single (rows_in db t.tree) row × Among row (rows_in db t.tree)
    stands row among = ((λ other there same. same_row db is.0 is.1.filled other row is.1.among (subst (λ rows. Among other rows) its_rows there) (subst (λ rows. Among row rows) its_rows among) same), among)

    all_stand : (rows : List Row) → AllByRecursion (IsIn db t) rows → AllByRecursion (λ row. Single (rows_in db t.tree) row × Among row (rows_in db t.tree)) rows
    all_stand rows all = all_weaker (IsIn db t) (λ row. Single (rows_in db t.tree) row × Among row (rows_in db t.tree)) rows stands all

  abbrev Found : List Row → Database → Type 0
  Found rows db = Holds t db × (AllByRecursion (IsIn db t) rows × DifferentRowids rows)

  standing : (rows : List Row) (cs : List Change) (db : Database) → Found rows db × (olds_of cs ≡ rows) → Standing exact t cs db
  standing rows cs db is = (
    only_with Any t db is.0.0 (λ f among table same. tt),
    all_of_olds (λ row. Single (rows_in db t.tree) row × Among row (rows_in db t.tree)) cs (all_stand db is.0.0 (olds_of cs) (subst (λ r. AllByRecursion (IsIn db t) r) (sym is.1) is.0.1.0)),
  )

  pub update_confined : IsConfined (Holds t) (λ reply. Any) (update t sets conjuncts)
  update_confined =
      next_confined (Holds t) Found (λ reply. Any) (met_rows t conjuncts)
      (λ rows. next (need refusal.Overflow (all_some (map (changed t sets) rows))) (λ changes. next (for_each (change_row t) changes) (λ all. give (done (length rows)))))
      (finds_confined (Holds t) (λ db rows. AllByRecursion (IsIn db t) rows × DifferentRowids rows) (met_rows t conjuncts)
      (λ db is. finds_both db (AllByRecursion (IsIn db t)) DifferentRowids (met_rows t conjuncts) (met_finds db t conjuncts) (met_differ db t (rows_differ db is) conjuncts)))
      (λ rows. next_confined (Found rows) (λ cs db. Found rows db × (olds_of cs ≡ rows)) (λ reply. Any) (need refusal.Overflow (all_some (map (changed t sets) rows)))
      (λ changes. next (for_each (change_row t) changes) (λ all. give (done (length rows))))
      (finds_confined (Found rows) (λ db cs. olds_of cs ≡ rows) (need refusal.Overflow (all_some (map (changed t sets) rows)))
      (λ db is. need_finds_it db (λ cs. olds_of cs ≡ rows) refusal.Overflow (all_some (map (changed t sets) rows)) (changes_of t sets rows)))
      (λ cs db is. next_confined (Standing exact t cs) (λ done. Any) (λ reply. Any) (for_each (change_row t) cs) (λ all. give (done (length rows)))
      (changes_confined exact t cs (all_apart cs (subst DifferentRowids (sym is.1) is.0.1.1))) (λ all. still_confined Any (give (done (length rows))) (λ d. refl)) db (standing rows cs db is)))
