-- A row that is taken out of a table: the database has its entries no more, and all others still.
use Rattle.std.proofs.Common.{◌≡◌, ℕ, ℤ, List, [], ◌∷◌, ◌++◌, ◌⊎◌, inl, inr, Bool, true, false, not, nat_eq, if◌then◌else◌, refl, sym, ap, subst, ◌∙◌}
use Rattle.std.specs.List.{AllByRecursion, filter}
use Rattle.std.specs.Ordering.{int_eq}
use Rattle.std.proofs.lemmas.Bool.{false≢true}
use Rattle.std.proofs.lemmas.Bool.Decides.{Decides-eqb, Decides-int_eq}
use Rattle.hc_value.specs.declared.value.Value.{Value}
use Rattle.hc_value.specs.declared.value.Value.TheVariants.{Int}
use Rattle.hc_base.specs.Lookup.{Among}
use Rattle.hc_schema.specs.declared.entry.Entry.{Entry}
use Rattle.hc_schema.specs.declared.table.Table.{Table}
use Rattle.hc_schema.specs.declared.table.Index.{Index}
use Rattle.hc_schema.specs.declared.row.Row.{Row}
use Rattle.hc_schema.specs.Cells.{table_entries, name_entries, indexed_values, row_entry, row_index_entry, row_entries}
use Rattle.hc_schema.specs.Databases.{Database, Filled, IsFilled, IsDatabase, filled_entries, entries_of, trees_of}
use Rattle.hc_schema.proofs.Orders.{among_front, among_back, among_map, from_map, from_flat, all_among}
use Rattle.hc_schema.proofs.EntryKinds.{kind_of, row_kind, row_index_kind, row_here, row_index_here, int_of, first_of}
use Rattle.hc_schema.proofs.SamePlaces.{one_tree, placed, all_weaker}
use Rattle.hc_schema.proofs.OneRecord.{owner, SameNumber, tree_numbers_in, distinct_ordered, last_of, last_is}
use Rattle.hc_sql.specs.Stored.{with_rows, without_row}
use Rattle.hc_sql.proofs.DecidedLooks.{Has}
use Rattle.hc_sql.proofs.KeptDelete.{Single, filtered, own_or_stays, cleared_back}
use Rattle.hc_sql.proofs.KeptRows.{either, entries_of_rows}
use Rattle.hc_sql.proofs.OtherRows.{other_there, taken_out}

-- ---- entries of a database in which a table has other rows

module _ (tree : ℕ) (into : List Row → List Row) (e : Entry) where
  abbrev pub other : Filled → Filled
  other f = record { table = f.table; rows = into f.rows }

  pub entries_back : (db : Database) → ((f : Filled) → Among f db → f.table.tree ≡ tree → Among e (filled_entries (other f)) → Among e (filled_entries f)) → Among e (entries_of (with_rows tree into db)) → Among e (entries_of db)
  entries_back [] each among = among
  entries_back (f ∷ db) each among = by_test (nat_eq f.table.tree tree) refl (entries_back db (λ g here. each g (inr here))) among
    where
      by_test : (here : Bool) → nat_eq f.table.tree tree ≡ here → (Among e (entries_of (with_rows tree into db)) → Among e (entries_of db))
          → Among e (entries_of (if here then other f ∷ db else f ∷ with_rows tree into db)) → Among e (entries_of (f ∷ db))
      by_test true same rest there =
          either e (filled_entries (other f)) (entries_of db) there
          (λ front. among_front e (filled_entries f) (entries_of db) (each f (inl refl) ((Decides-eqb f.table.tree tree).0 same) front)) (λ later. among_back e (filled_entries f) (entries_of db) later)
      by_test false same rest there =
          either e (filled_entries f) (entries_of (with_rows tree into db)) there
          (λ front. among_front e (filled_entries f) (entries_of db) front) (λ later. among_back e (filled_entries f) (entries_of db) (rest later))

  pub entries_over : (P : Type 0) (db : Database) → ((f : Filled) → Among f db → f.table.tree ≡ tree → Among e (filled_entries f) → P ⊎ Among e (filled_entries (other f))) → Among e (entries_of db) → P ⊎ Among e (entries_of (with_rows tree into db))
  entries_over P [] each among = absurd among
  entries_over P (f ∷ db) each among = by_test (nat_eq f.table.tree tree) refl (entries_over P db (λ g here. each g (inr here)))
    where
      by_test : (here : Bool) → nat_eq f.table.tree tree ≡ here → (Among e (entries_of db) → P ⊎ Among e (entries_of (with_rows tree into db)))
          → P ⊎ Among e (entries_of (if here then other f ∷ db else f ∷ with_rows tree into db))
      by_test true same rest =
          either e (filled_entries f) (entries_of db) among
          (λ front. elim (each f (inl refl) ((Decides-eqb f.table.tree tree).0 same) front) [ inl p ↦ inl p | inr there ↦ inr (among_front e (filled_entries (other f)) (entries_of db) there) ])
          (λ later. inr (among_back e (filled_entries (other f)) (entries_of db) later))
      by_test false same rest =
          either e (filled_entries f) (entries_of db) among
          (λ front. inr (among_front e (filled_entries f) (entries_of (with_rows tree into db)) front))
          (λ later. elim (rest later) [ inl p ↦ inl p | inr there ↦ inr (among_back e (filled_entries f) (entries_of (with_rows tree into db)) there) ])

-- ---- a row that is not there has no entries

module _ (db : Database) (is : IsDatabase db) (f : Filled) (in_db : Among f db) (k : ℤ) (values : List Value) (none : (r : Row) → Among r f.rows → r.rowid ≡ k → ⊥) where
  filled : IsFilled f
  filled = all_among IsFilled f db is.filled in_db

  not_row : (e : Entry) → e ≡ row_entry f.table k values → Among e (entries_of db) → ⊥
  not_row e own among =
      let within = from_flat filled_entries e db among in
      let h = within.x in
      let place = placed f filled in
      let here = row_here h (placed h (all_among IsFilled h db is.filled within.among)) e within.here (ap kind_of own ∙ row_kind f.table k values place.tree.0 place.tree.1) in
      let same : row_entry f.table k values ≡ row_entry h.table here.row.rowid here.row.values = sym own ∙ here.is in
      let one : h ≡ f = one_tree db h f is within.among in_db (sym (ap (λ (d : Entry). d.tree) same)) in
      none here.row (subst (λ (x : Filled). Among here.row x.rows) one here.among) (sym (ap (λ (d : Entry). int_of (first_of d.key)) same))

  not_index : (e : Entry) (index : Index) → Among index f.table.indexes → e ≡ row_index_entry k values index → Among e (entries_of db) → ⊥
  not_index e index listed own among =
      let within = from_flat filled_entries e db among in
      let h = within.x in
      let place = placed f filled in
      let above = place.index_trees index listed in
      let here = row_index_here h (placed h (all_among IsFilled h db is.filled within.among)) e within.here (ap kind_of own ∙ row_index_kind k values index above.0 above.1 (place.columns index listed)) in
      let same : row_index_entry k values index ≡ row_index_entry here.row.rowid here.row.values here.index = sym own ∙ here.is in
      let trees : index.tree ≡ here.index.tree = ap (λ (d : Entry). d.tree) same in
      let one : h ≡ f =
      owner SameNumber tree_numbers_in db h f here.index.tree index.tree (distinct_ordered (trees_of db) is.trees) within.among in_db
      (inr (among_map (λ (x : Index). x.tree) here.index h.table.indexes here.listed)) (inr (among_map (λ (x : Index). x.tree) index f.table.indexes listed)) (sym trees) trees in
      let keys : indexed_values index values ++ Int k ∷ [] ≡ indexed_values here.index here.row.values ++ Int here.row.rowid ∷ [] = ap (λ (d : Entry). d.key) same in
      let rowid : k ≡ here.row.rowid = ap int_of (sym (last_is (indexed_values index values) (Int k)) ∙ ap last_of keys ∙ last_is (indexed_values here.index here.row.values) (Int here.row.rowid)) in
      none here.row (subst (λ (x : Filled). Among here.row x.rows) one here.among) (sym rowid)

  pub not_own : (e : Entry) → Among e (row_entries f.table k values) → Among e (entries_of db) → ⊥
  not_own e (inl own) among = not_row e own among
  not_own e (inr own) among = let from = from_map (row_index_entry k values) e f.table.indexes own in not_index e from.x from.among from.is among

-- ---- a row that is taken out

-- a row that passes a test is one of which the test is true
passes : (test : Row → Bool) (rows : List Row) (row : Row) → Among row (filter test rows) → test row ≡ true
passes test [] row among = absurd among
passes test (r ∷ rows) row among = by_test (test r) refl (passes test rows row) among
  where
    by_test : (here : Bool) → test r ≡ here → (Among row (filter test rows) → test row ≡ true) → Among row (if here then r ∷ filter test rows else filter test rows) → test row ≡ true
    by_test true is rest (inl same) = subst (λ x. test x ≡ true) (sym same) is
    by_test true is rest (inr later) = rest later
    by_test false is rest later = rest later

other_rowid : (k : ℤ) (rows : List Row) (row : Row) → Among row (without_row k rows) → row.rowid ≡ k → ⊥
other_rowid k rows row among same =
    let is = passes (λ (r : Row). not (int_eq r.rowid k)) rows row among in
    false≢true (ap not (sym ((Decides-int_eq row.rowid k).1 same)) ∙ is)

module _ (t : Table) where
  -- a database with the table, in which each of the rows is alone with its rowid
  pub record Going (olds : List Row) (db : Database) : Type 0 where
    pub is : IsDatabase db
    pub has : Has db t
    pub single : AllByRecursion (Single has.filled.rows) olds

  module _ (old : Row) (olds : List Row) (db : Database) (g : Going (old ∷ olds) db) where
    abbrev f : Filled
    f = g.has.filled

    abbrev pub cleared : Database
    cleared = with_rows t.tree (without_row old.rowid) db

    tree : f.table.tree ≡ t.tree
    tree = ap (λ (x : Table). x.tree) g.has.is

    one : (h : Filled) → Among h db → h.table.tree ≡ t.tree → h ≡ f
    one h among same = one_tree db h f g.is among g.has.among (same ∙ sym tree)

    pub still_going : Going olds cleared
    still_going = record {
      is = taken_out t.tree old.rowid db g.is;
      has = record { filled = record { table = f.table; rows = without_row old.rowid f.rows }; among = other_there t.tree (without_row old.rowid) db f one g.has.among tree; is = g.has.is };
      single = all_weaker (Single f.rows) (Single (without_row old.rowid f.rows)) olds (λ o alone row among. alone row (filtered (λ r. not (int_eq r.rowid old.rowid)) f.rows row among)) g.single.1;
    }

    pub left_back : (e : Entry) → Among e (entries_of cleared) → Among e (entries_of db)
    left_back e =
        entries_back t.tree (without_row old.rowid) e db
        (λ h among same here. either e (table_entries h.table) (name_entries h.table ++ entries_of_rows h.table (without_row old.rowid h.rows)) here
        (λ front. among_front e (table_entries h.table) (name_entries h.table ++ entries_of_rows h.table h.rows) front)
        (λ rest. among_back e (table_entries h.table) (name_entries h.table ++ entries_of_rows h.table h.rows)
        (either e (name_entries h.table) (entries_of_rows h.table (without_row old.rowid h.rows)) rest
        (λ front. among_front e (name_entries h.table) (entries_of_rows h.table h.rows) front)
        (λ rows. among_back e (name_entries h.table) (entries_of_rows h.table h.rows) (cleared_back h.table old h.rows e rows)))))

    -- of the table itself
    stays_here : (e : Entry) → Among e (filled_entries f) → Among e (row_entries f.table old.rowid old.values) ⊎ Among e (filled_entries (record { table = f.table; rows = without_row old.rowid f.rows }))
    stays_here e among =
        either e (table_entries f.table) (name_entries f.table ++ entries_of_rows f.table f.rows) among
        (λ front. inr (among_front e (table_entries f.table) (name_entries f.table ++ entries_of_rows f.table (without_row old.rowid f.rows)) front))
        (λ rest. either e (name_entries f.table) (entries_of_rows f.table f.rows) rest
        (λ front. inr (among_back e (table_entries f.table) (name_entries f.table ++ entries_of_rows f.table (without_row old.rowid f.rows)) (among_front e (name_entries f.table) (entries_of_rows f.table (without_row old.rowid f.rows)) front)))
        (λ rows. elim (own_or_stays f.table old f.rows g.single.0 e rows) [
          | inl mine ↦ inl mine
          | inr stays ↦ inr (among_back e (table_entries f.table) (name_entries f.table ++ entries_of_rows f.table (without_row old.rowid f.rows)) (among_back e (name_entries f.table) (entries_of_rows f.table (without_row old.rowid f.rows)) stays))
        ]))

    abbrev Own : Entry → Type 0
    Own e = Among e (row_entries f.table old.rowid old.values)

    pub left_over : (e : Entry) → Among e (entries_of db) → Among e (row_entries t old.rowid old.values) ⊎ Among e (entries_of cleared)
    left_over e among =
        subst (λ x. Among e (row_entries x old.rowid old.values) ⊎ Among e (entries_of cleared)) g.has.is
        (entries_over t.tree (without_row old.rowid) e (Own e) db
        (λ h in_db same. subst (λ (x : Filled). Among e (filled_entries x) → Own e ⊎ Among e (filled_entries (record { table = x.table; rows = without_row old.rowid x.rows }))) (sym (one h in_db same)) (stays_here e)) among)

    pub left_not : (e : Entry) → Among e (row_entries t old.rowid old.values) → Among e (entries_of cleared) → ⊥
    unfolding still_going
    left_not e own among =
        not_own cleared still_going.is still_going.has.filled still_going.has.among old.rowid old.values (other_rowid old.rowid f.rows) e
        (subst (λ x. Among e (row_entries x old.rowid old.values)) (sym g.has.is) own) among
