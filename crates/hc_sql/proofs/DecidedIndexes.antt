-- CREATE INDEX is decided by what it reads: the catalog, and all rows of the table.
use Rattle.std.proofs.Common.{◌≡◌, ℕ, List, [], ◌∷◌, ◌++◌, ◌⊎◌, inl, inr, map, Option, Some, None, Bool, true, false, not, ◌&&◌, nat_eq, if◌then◌else◌, Result, Ok, Err, refl, sym, ap, subst, ◌∙◌}
use Rattle.std.specs.Option.{option_map, is_some}
use Rattle.std.proofs.lemmas.Bool.{false≢true}
use Rattle.std.proofs.lemmas.Bool.Decides.{Decides-eqb}
use Rattle.hc_ast.specs.declared.statement.Stmt.TheVariants as stmt
use Rattle.hc_record.specs.Laws.{NoEncodingBeginsAnother}
use Rattle.hc_key.specs.Laws.{KeysDiffer, RangesHoldTheirKeys}
use Rattle.hc_key.proofs.Prefix.{TiesAreSame}
use Rattle.hc_base.specs.Lookup.{Among}
use Rattle.hc_transcript.specs.declared.refusal.Refusal.{Refusal}
use Rattle.hc_transcript.specs.declared.refusal.Refusal.TheVariants as refusal
use Rattle.hc_schema.specs.declared.entry.Entry.{Entry}
use Rattle.hc_schema.specs.declared.table.Table.{Table}
use Rattle.hc_schema.specs.declared.table.Index.{Index}
use Rattle.hc_schema.specs.declared.row.Row.{Row}
use Rattle.hc_schema.specs.Cells.{indexed_values, table_entries, name_entries, column_entries, index_entry, index_name_entry, row_entries, row_index_entry}
use Rattle.hc_schema.specs.Databases.{Database, Filled, IsDatabase, Agree, entries_of, filled_entries}
use Rattle.hc_schema.proofs.Orders.{among_front, among_back, among_either, among_map, among_flat, from_map, from_flat}
use Rattle.hc_schema.proofs.SamePlaces.{one_tree}
use Rattle.hc_sql.specs.Work.{give, next, need, refuse_if}
use Rattle.hc_sql.specs.Stored.{rows_in, index_of, with_indexes, change_indexes}
use Rattle.hc_sql.specs.Looks.{read_catalog, find_rows}
use Rattle.hc_sql.specs.Results.{done}
use Rattle.hc_sql.specs.Tests.{unless, too_long, test_lengths}
use Rattle.hc_sql.specs.Definitions.{is_reserved, new_index, index_refused}
use Rattle.hc_sql.specs.Catalog.{table_named, in_use, test_name, in_order, is_tree, next_tree, repeat_in, set_entry, index_rows, index_entries, put_index, make_index, create_new_index, create_index_in, create_index}
use Rattle.hc_sql.specs.ChangeLaws.{IsDecidedByItsReads}
use Rattle.hc_sql.proofs.DecidedLooks.{OnFound, Has, find_rows_decided}
use Rattle.hc_sql.proofs.DecidedTables.{catalog_goes}
use Rattle.hc_sql.proofs.DecidedDrops.{named_on}
use Rattle.hc_sql.proofs.Searches.{rows_found}
use Rattle.hc_sql.proofs.Shared.{IsAt, across, agree_back}
use Rattle.hc_sql.proofs.KeptRows.{either, entries_of_rows}
use Rattle.hc_sql.proofs.KeptIndexes.{OfIndex, with_these}
use Rattle.hc_sql.proofs.DecidedChanges.{agree_from, Goes, next_goes, unless_goes, refuse_if_goes, Twins, InBoth, WithTables, Agrees, decided_by}

-- ---- a table with other indexes: an entry is one of an index that goes, or it stays

module _ (t : Table) (rows : List Row) (xs ys : List Index) (Goes_out : Index → Type 0) (stays : (i : Index) → Among i xs → Among i ys ⊎ Goes_out i) where
  abbrev pub Out : Entry → Type 0
  Out e = (i : Index) × Among i xs × Goes_out i × OfIndex t.name rows i e

  listed_split : (of : Index → Entry) → ((i : Index) → OfIndex t.name rows i (of i)) → (e : Entry) → Among e (map of xs) → Out e ⊎ Among e (map of ys)
  listed_split of is e among =
      let from = from_map of e xs among in
      elim (stays from.x from.among) [
        | inl there ↦ inr (subst (λ (d : Entry). Among d (map of ys)) (sym from.is) (among_map of from.x ys there))
        | inr out ↦ inl (from.x, from.among, out, subst (OfIndex t.name rows from.x) (sym from.is) (is from.x))
      ]

  table_split : (e : Entry) → Among e (table_entries (with_indexes xs t)) → Out e ⊎ Among e (table_entries (with_indexes ys t))
  table_split e (inl same) = inr (inl same)
  table_split e (inr rest) =
      either e (column_entries t.name 1 t.columns) (map (index_entry t.name) xs) rest (λ column. inr (inr (among_front e (column_entries t.name 1 t.columns) (map (index_entry t.name) ys) column)))
      (λ index. elim (listed_split (index_entry t.name) (λ i. inl refl) e index) [ inl out ↦ inl out | inr there ↦ inr (inr (among_back e (column_entries t.name 1 t.columns) (map (index_entry t.name) ys) there)) ])

  rows_split : (e : Entry) → Among e (entries_of_rows (with_indexes xs t) rows) → Out e ⊎ Among e (entries_of_rows (with_indexes ys t) rows)
  rows_split e among =
      let within = from_flat (λ (row : Row). row_entries (with_indexes xs t) row.rowid row.values) e rows among in
      elim (by_place within.x within.among within.here) [ inl out ↦ inl out | inr there ↦ inr (among_flat (λ (row : Row). row_entries (with_indexes ys t) row.rowid row.values) e within.x rows within.among there) ]
    where
      by_place : (row : Row) → Among row rows → Among e (row_entries (with_indexes xs t) row.rowid row.values) → Out e ⊎ Among e (row_entries (with_indexes ys t) row.rowid row.values)
      by_place row in_rows (inl own) = inr (inl own)
      by_place row in_rows (inr indexed) = elim (listed_split (row_index_entry row.rowid row.values) (λ i. inr (inr (row, in_rows, refl))) e indexed) [ inl out ↦ inl out | inr there ↦ inr (inr there) ]

  pub filled_split : (e : Entry) → Among e (filled_entries (with_these t xs rows)) → Out e ⊎ Among e (filled_entries (with_these t ys rows))
  filled_split e among =
      let old = with_indexes xs t in
      let new = with_indexes ys t in
      either e (table_entries old) (name_entries old ++ entries_of_rows old rows) among
      (λ front. elim (table_split e front) [ inl out ↦ inl out | inr there ↦ inr (among_front e (table_entries new) (name_entries new ++ entries_of_rows new rows) there) ])
      (λ rest. either e (name_entries old) (entries_of_rows old rows) rest
      (λ name. elim (listed_split (index_name_entry t.name) (λ i. inr (inl refl)) e name) [
        | inl out ↦ inl out
        | inr there ↦ inr (among_back e (table_entries new) (name_entries new ++ entries_of_rows new rows) (among_front e (name_entries new) (entries_of_rows new rows) there))
      ])
      (λ row. elim (rows_split e row) [
        | inl out ↦ inl out
        | inr there ↦ inr (among_back e (table_entries new) (name_entries new ++ entries_of_rows new rows) (among_back e (name_entries new) (entries_of_rows new rows) there))
      ]))

-- an entry of an index that the table has is there
index_there : (t : Table) (rows : List Row) (ys : List Index) (index : Index) → Among index ys → (e : Entry) → OfIndex t.name rows index e → Among e (filled_entries (with_these t ys rows))
index_there t rows ys index listed e (inl same) =
    let new = with_indexes ys t in
    among_front e (table_entries new) (name_entries new ++ entries_of_rows new rows)
    (inr (among_back e (column_entries t.name 1 t.columns) (map (index_entry t.name) ys) (subst (λ (d : Entry). Among d (map (index_entry t.name) ys)) (sym same) (among_map (index_entry t.name) index ys listed))))
index_there t rows ys index listed e (inr (inl same)) =
    let new = with_indexes ys t in
    among_back e (table_entries new) (name_entries new ++ entries_of_rows new rows)
    (among_front e (name_entries new) (entries_of_rows new rows) (subst (λ (d : Entry). Among d (map (index_name_entry t.name) ys)) (sym same) (among_map (index_name_entry t.name) index ys listed)))
index_there t rows ys index listed e (inr (inr row)) =
    let new = with_indexes ys t in
    among_back e (table_entries new) (name_entries new ++ entries_of_rows new rows)
    (among_back e (name_entries new) (entries_of_rows new rows)
    (among_flat (λ (r : Row). row_entries new r.rowid r.values) e row.0 rows row.1
    (inr (subst (λ (d : Entry). Among d (map (row_index_entry row.0.rowid row.0.values) ys)) (sym row.2) (among_map (row_index_entry row.0.rowid row.0.values) index ys listed)))))

-- ---- a database in which a table has other indexes

module _ (tree : ℕ) (into : List Index → List Index) where
  abbrev pub changed : Filled → Filled
  changed f = with_these f.table (into f.table.indexes) f.rows

  pub indexes_back : (P : Type 0) (e : Entry) (db : Database) → ((f : Filled) → Among f db → f.table.tree ≡ tree → Among e (filled_entries (changed f)) → P ⊎ Among e (filled_entries f))
      → Among e (entries_of (change_indexes tree into db)) → P ⊎ Among e (entries_of db)
  indexes_back P e [] each among = absurd among
  indexes_back P e (f ∷ db) each among = by_test (nat_eq f.table.tree tree) refl (indexes_back P e db (λ g here. each g (inr here))) among
    where
      by_test : (here : Bool) → nat_eq f.table.tree tree ≡ here → (Among e (entries_of (change_indexes tree into db)) → P ⊎ Among e (entries_of db))
          → Among e (entries_of (if here then changed f ∷ db else f ∷ change_indexes tree into db)) → P ⊎ Among e (entries_of (f ∷ db))
      by_test true same rest there =
          either e (filled_entries (changed f)) (entries_of db) there
          (λ front. elim (each f (inl refl) ((Decides-eqb f.table.tree tree).0 same) front) [ inl p ↦ inl p | inr old ↦ inr (among_front e (filled_entries f) (entries_of db) old) ])
          (λ later. inr (among_back e (filled_entries f) (entries_of db) later))
      by_test false same rest there =
          either e (filled_entries f) (entries_of (change_indexes tree into db)) there (λ front. inr (among_front e (filled_entries f) (entries_of db) front))
          (λ later. elim (rest later) [ inl p ↦ inl p | inr old ↦ inr (among_back e (filled_entries f) (entries_of db) old) ])

  pub indexes_over : (P : Type 0) (e : Entry) (db : Database) → ((f : Filled) → Among f db → f.table.tree ≡ tree → Among e (filled_entries f) → P ⊎ Among e (filled_entries (changed f)))
      → Among e (entries_of db) → P ⊎ Among e (entries_of (change_indexes tree into db))
  indexes_over P e [] each among = absurd among
  indexes_over P e (f ∷ db) each among = by_test (nat_eq f.table.tree tree) refl (indexes_over P e db (λ g here. each g (inr here)))
    where
      by_test : (here : Bool) → nat_eq f.table.tree tree ≡ here → (Among e (entries_of db) → P ⊎ Among e (entries_of (change_indexes tree into db)))
          → P ⊎ Among e (entries_of (if here then changed f ∷ db else f ∷ change_indexes tree into db))
      by_test true same rest =
          either e (filled_entries f) (entries_of db) among
          (λ front. elim (each f (inl refl) ((Decides-eqb f.table.tree tree).0 same) front) [ inl p ↦ inl p | inr new ↦ inr (among_front e (filled_entries (changed f)) (entries_of db) new) ])
          (λ later. inr (among_back e (filled_entries (changed f)) (entries_of db) later))
      by_test false same rest =
          either e (filled_entries f) (entries_of db) among (λ front. inr (among_front e (filled_entries f) (entries_of (change_indexes tree into db)) front))
          (λ later. elim (rest later) [ inl p ↦ inl p | inr new ↦ inr (among_back e (filled_entries f) (entries_of (change_indexes tree into db)) new) ])

  -- the table is there with its other indexes
  changed_there : (db : Database) (f : Filled) → ((g : Filled) → Among g db → g.table.tree ≡ tree → g ≡ f) → Among f db → f.table.tree ≡ tree → Among (changed f) (change_indexes tree into db)
  changed_there [] f one among is = absurd among
  changed_there (h ∷ db) f one among is = by_test (nat_eq h.table.tree tree) refl (λ later. changed_there db f (λ g in_rest. one g (inr in_rest)) later is) among
    where
      by_test : (here : Bool) → nat_eq h.table.tree tree ≡ here → (Among f db → Among (changed f) (change_indexes tree into db)) → Among f (h ∷ db)
          → Among (changed f) (if here then changed h ∷ db else h ∷ change_indexes tree into db)
      by_test true same rest place = inl (ap changed (sym (one h (inl refl) ((Decides-eqb h.table.tree tree).0 same))))
      by_test false same rest (inl here) = absurd (false≢true (sym same ∙ (Decides-eqb h.table.tree tree).1 (subst (λ (g : Filled). g.table.tree ≡ tree) here is)))
      by_test false same rest (inr later) = inr (rest later)

-- ---- the new index

module _ (t : Table) (index : Index) where
  abbrev into : List Index → List Index
  into indexes = indexes ++ index ∷ []

  abbrev after : Database → Database
  after db = change_indexes t.tree into db

  module _ (db : Database) (is : IsDatabase db) (has : Has db t) (e : Entry) where
    abbrev New : Type 0
    New = OfIndex t.name (rows_in db t.tree) index e

    tree_is : has.filled.table.tree ≡ t.tree
    tree_is = ap (λ (x : Table). x.tree) has.is

    one : (f : Filled) → Among f db → f.table.tree ≡ t.tree → f ≡ has.filled
    one f among tree = one_tree db f has.filled is among has.among (tree ∙ sym tree_is)

    rows_of : rows_in db t.tree ≡ has.filled.rows
    rows_of = rows_found db t.tree has.filled one has.among tree_is

    -- of the table itself
    split_here : Among e (filled_entries (with_these t (into t.indexes) has.filled.rows)) → New ⊎ Among e (filled_entries (with_these t t.indexes has.filled.rows))
    split_here among =
        elim (filled_split t has.filled.rows (into t.indexes) t.indexes (λ i. i ≡ index) (λ i listed. elim (among_either i t.indexes (index ∷ []) listed) [ inl old ↦ inl old | inr new ↦ inr (only_one i new) ]) e among) [
          | inl out ↦ inl (subst (λ l. OfIndex t.name l index e) (sym rows_of) (subst (λ i. OfIndex t.name has.filled.rows i e) out.2 out.3))
          | inr old ↦ inr old
        ]
      where
        only_one : (i : Index) → Among i (index ∷ []) → i ≡ index
        only_one i (inl same) = same
        only_one i (inr never) = absurd never

    pub new_or_old : Among e (entries_of (after db)) → New ⊎ Among e (entries_of db)
    new_or_old =
        indexes_back t.tree into New e db
        (λ f among tree. subst (λ (g : Filled). Among e (filled_entries (changed t.tree into g)) → New ⊎ Among e (filled_entries g)) (sym (one f among tree))
        (subst (λ (x : Table). Among e (filled_entries (with_these x (into x.indexes) has.filled.rows)) → New ⊎ Among e (filled_entries (with_these x x.indexes has.filled.rows))) (sym has.is) split_here))

    pub old_stays : Among e (entries_of db) → Among e (entries_of (after db))
    old_stays among =
        elim (indexes_over t.tree into ⊥ e db (λ f in_db tree here. inr (elim (filled_split f.table f.rows f.table.indexes (into f.table.indexes) (λ i. ⊥) (λ i listed. inl (among_front i f.table.indexes (index ∷ []) listed)) e here) [
          | inl out ↦ absurd out.2
          | inr there ↦ there
        ])) among) [ inl never ↦ absurd never | inr there ↦ there ]

    pub new_there : New → Among e (entries_of (after db))
    new_there new =
        let f = has.filled in
        let of_f : OfIndex f.table.name f.rows index e = subst (λ (x : Table). OfIndex x.name f.rows index e) (sym has.is) (subst (λ l. OfIndex t.name l index e) rows_of new) in
        among_flat filled_entries e (changed t.tree into f) (after db) (changed_there t.tree into db f one has.among tree_is)
        (index_there f.table f.rows (into f.table.indexes) index (among_back index f.table.indexes (index ∷ []) (inl refl)) e of_f)

module _ (keys : KeysDiffer) (encodings : NoEncodingBeginsAnother) (ties : TiesAreSame) (ranges : RangesHoldTheirKeys) (Keys : List ℕ → Type 0) where
  abbrev Start : Table → Database → Database → Type 0
  Start t a b = Twins Keys a b × InBoth Keys a b t

  -- both have the same rows in the table
  record Ready (t : Table) (a b : Database) : Type 0 where
    pub twins : Twins Keys a b
    pub has : InBoth Keys a b t
    pub rows : rows_in a t.tree ≡ rows_in b t.tree

  value_of : Result (List Row) Refusal → List Row
  value_of (Ok rows) = rows
  value_of (Err refusal) = []

  find_goes : (t : Table) → Goes Keys (Start t) (λ rows. Ready t) (find_rows t)
  unfolding value_of
  find_goes t a b start inside =
      let same = find_rows_decided keys encodings ties ranges Keys a b start.0.is_a start.0.is_b start.0.agree t (record { on_a = start.1.0; on_b = start.1.1 }) inside in
      record { result = same.result; reads = refl; left = record { twins = start.0; has = start.1; rows = ap value_of same.result } }

  module _ (t : Table) (index : Index) where
    over : (a b : Database) → IsDatabase a → IsDatabase b → Agree Keys a b → Has a t → Has b t → rows_in a t.tree ≡ rows_in b t.tree → (e : Entry) → IsAt Keys e → Among e (entries_of (after t index a)) → Among e (entries_of (after t index b))
    over a b is_a is_b agree has_a has_b rows e at among =
        elim (new_or_old t index a is_a has_a e among) [
          | inl new ↦ new_there t index b is_b has_b e (subst (λ l. OfIndex t.name l index e) rows new)
          | inr old ↦ old_stays t index b is_b has_b e (across keys encodings Keys a b is_a is_b agree e at old)
        ]

    put_goes : Goes Keys (Ready t) (Agrees Keys) (put_index t index)
    put_goes a b ready inside = record {
      result = refl;
      reads = refl;
      left = agree_from Keys (after t index a) (after t index b) (over a b ready.twins.is_a ready.twins.is_b ready.twins.agree ready.has.0 ready.has.1 ready.rows)
          (over b a ready.twins.is_b ready.twins.is_a (agree_back Keys a b ready.twins.agree) ready.has.1 ready.has.0 (sym ready.rows));
    }

    rows_go : (before rows : List Row) → Goes Keys (Ready t) (λ all. Ready t) (index_rows t index before rows)
    rows_go before [] = λ a b ready inside. record { result = refl; reads = refl; left = ready }
    rows_go before (row ∷ rows) =
        let e = row_index_entry row.rowid row.values index in
        let repeat = repeat_in t index (indexed_values index row.values) before in
        next_goes Keys (λ x. Ready t) (λ x. Ready t) (λ new. next (test_lengths (e ∷ [])) (λ length. next (set_entry e) (λ set. index_rows t index (before ++ row ∷ []) rows)))
        (λ new. next_goes Keys (λ x. Ready t) (λ x. Ready t) (λ length. next (set_entry e) (λ set. index_rows t index (before ++ row ∷ []) rows))
        (λ length. next_goes Keys (λ x. Ready t) (λ x. Ready t) (λ set. index_rows t index (before ++ row ∷ []) rows) (λ set. rows_go (before ++ row ∷ []) rows) (Ready t) (set_entry e)
        (λ a b ready inside. record { result = refl; reads = refl; left = ready }))
        (Ready t) (test_lengths (e ∷ [])) (unless_goes Keys (Ready t) (too_long (e ∷ []))))
        (Ready t) (unless repeat) (unless_goes Keys (Ready t) repeat)

    made_goes : Goes Keys (Start t) (Agrees Keys) (make_index t index)
    made_goes =
        next_goes Keys (λ x. Start t) (Agrees Keys) (λ trees. next (test_lengths (in_order (index_entries t index))) (λ lengths. next (find_rows t) (λ rows. next (index_rows t index [] rows) (λ all. next (put_index t index) (λ put. give (done 0))))))
        (λ trees. next_goes Keys (λ x. Start t) (Agrees Keys) (λ lengths. next (find_rows t) (λ rows. next (index_rows t index [] rows) (λ all. next (put_index t index) (λ put. give (done 0)))))
        (λ lengths. next_goes Keys (λ rows. Ready t) (Agrees Keys) (λ rows. next (index_rows t index [] rows) (λ all. next (put_index t index) (λ put. give (done 0))))
        (λ rows. next_goes Keys (λ all. Ready t) (Agrees Keys) (λ all. next (put_index t index) (λ put. give (done 0)))
        (λ all. next_goes Keys (Agrees Keys) (Agrees Keys) (λ put. give (done 0)) (λ put a b agree inside. record { result = refl; reads = refl; left = agree }) (Ready t) (put_index t index) put_goes)
        (Ready t) (index_rows t index [] rows) (rows_go [] rows))
        (Start t) (find_rows t) (find_goes t))
        (Start t) (test_lengths (in_order (index_entries t index))) (unless_goes Keys (Start t) (too_long (in_order (index_entries t index)))))
        (Start t) (refuse_if (not (is_tree index.tree)) refusal.Trees) (refuse_if_goes Keys (Start t) (not (is_tree index.tree)) refusal.Trees)

  module _ (is_unique maybe : Bool) (name table : List ℕ) (columns : List (List ℕ)) where
    new_goes : (tables : List Table) (t : Table) → Goes Keys (Start t) (Agrees Keys) (create_new_index tables t is_unique name columns)
    new_goes tables t =
        let index = new_index t name (next_tree tables) is_unique columns in
        next_goes Keys (λ x. Start t) (Agrees Keys) (λ free. next (unless (index_refused t columns)) (λ right. make_index t index))
        (λ free. next_goes Keys (λ x. Start t) (Agrees Keys) (λ right. make_index t index) (λ right. made_goes t index) (Start t) (unless (index_refused t columns)) (unless_goes Keys (Start t) (index_refused t columns)))
        (Start t) (test_name tables name) (unless_goes Keys (Start t) (option_map refusal.Exists (in_use tables name)))

    on_table : (tables : List Table) (t : Table) (there : Bool) → Goes Keys (Start t) (Agrees Keys) (if there then give (done 0) else create_new_index tables t is_unique name columns)
    on_table tables t true = λ a b start inside. record { result = refl; reads = refl; left = start.0.agree }
    on_table tables t false = new_goes tables t

    abbrev Found : Option Table → Database → Database → Type 0
    Found found a b = Twins Keys a b × OnFound (InBoth Keys a b) found

    needed : (tables : List Table) (found : Option Table)
        → Goes Keys (Found found) (Agrees Keys) (next (need (refusal.NoTable table) found) (λ t. if maybe && is_some (index_of tables name) then give (done 0) else create_new_index tables t is_unique name columns))
    needed tables None = λ a b has inside. record { result = refl; reads = refl; left = tt }
    needed tables (Some t) = on_table tables t (maybe && is_some (index_of tables name))

    create_goes : Goes Keys (Twins Keys) (Agrees Keys) (create_index is_unique maybe name table columns)
    create_goes =
        next_goes Keys (WithTables Keys) (Agrees Keys) (λ tables. create_index_in tables is_unique maybe name table columns)
        (λ tables a b has. next_goes Keys (λ free. Found (table_named tables table)) (Agrees Keys)
        (λ free. next (need (refusal.NoTable table) (table_named tables table)) (λ t. if maybe && is_some (index_of tables name) then give (done 0) else create_new_index tables t is_unique name columns))
        (λ free. needed tables (table_named tables table)) (Found (table_named tables table)) (refuse_if (is_reserved name) (refusal.Reserved name))
        (refuse_if_goes Keys (Found (table_named tables table)) (is_reserved name) (refusal.Reserved name)) a b (has.0, named_on (InBoth Keys a b) tables table has.1))
        (Twins Keys) read_catalog (catalog_goes keys encodings ties ranges Keys)

pub create_index_decided : KeysDiffer → NoEncodingBeginsAnother → TiesAreSame → RangesHoldTheirKeys → (is_unique maybe : Bool) (name table : List ℕ) (columns : List (List ℕ)) → IsDecidedByItsReads (stmt.CreateIndex is_unique maybe name table columns)
create_index_decided keys encodings ties ranges is_unique maybe name table columns = decided_by (stmt.CreateIndex is_unique maybe name table columns) (λ Keys. create_goes keys encodings ties ranges Keys is_unique maybe name table columns)
