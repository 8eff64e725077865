-- CREATE INDEX and DROP INDEX change no key but those that they read.
use Rattle.std.proofs.Common.{◌≡◌, ℕ, ◌<◌, ◌^◌, arith, List, [], ◌∷◌, ◌++◌, ◌⊎◌, inl, inr, length, map, Option, Some, None, Bool, true, false, not, ◌&&◌, nat_eq, if◌then◌else◌, Result, Ok, Err, refl, sym, ap, subst, ◌∙◌}
use Rattle.std.specs.List.{filter}
use Rattle.std.specs.Option.{option_map, is_some}
use Rattle.std.proofs.lemmas.Bool.{true≢false}
use Rattle.std.proofs.lemmas.Bool.Decides.{Decides-eqb}
use Rattle.hc_range.specs.declared.range.Range.{Range}
use Rattle.hc_range.specs.Ranges.{InAny}
use Rattle.hc_record.specs.Laws.{NoEncodingBeginsAnother}
use Rattle.hc_key.specs.Keys.{key_bytes}
use Rattle.hc_key.specs.Laws.{KeysDiffer, RangesHoldTheirKeys}
use Rattle.hc_base.specs.Lookup.{Among}
use Rattle.hc_transcript.specs.declared.refusal.Refusal.{Refusal}
use Rattle.hc_transcript.specs.declared.refusal.Refusal.TheVariants as refusal
use Rattle.hc_schema.specs.declared.entry.Entry.{Entry}
use Rattle.hc_schema.specs.declared.table.Table.{Table}
use Rattle.hc_schema.specs.declared.table.Index.{Index}
use Rattle.hc_schema.specs.declared.row.Row.{Row}
use Rattle.hc_schema.specs.Binding.Names.{same_name}
use Rattle.hc_schema.specs.Tables.{IsIndex, is_rule}
use Rattle.hc_schema.specs.Cells.{tree_range, indexed_values, table_entries, name_entries, column_entries, index_entry, index_name_entry, row_entries, row_index_entry}
use Rattle.hc_schema.specs.Databases.{Database, Filled, IsDatabase, IsFilled, entries_of, filled_entries}
use Rattle.hc_schema.proofs.Orders.{among_front, among_back, among_either, among_map, among_flat, from_map, from_flat, all_among, all_from, Ordered, one_element}
use Rattle.hc_schema.proofs.SamePlaces.{by_number, one_tree}
use Rattle.hc_schema.proofs.EntryKinds.{row_index_place}
use Rattle.hc_sql.specs.Work.{Work, Done, Task, give, refuse, with_reads, go_on, next, need, refuse_if}
use Rattle.hc_sql.specs.Stored.{Owned, or_owned, index_called, index_of, rows_in, with_indexes, change_indexes, without_index}
use Rattle.hc_sql.specs.Looks.{read_catalog, find_rows}
use Rattle.hc_sql.specs.Results.{Reply, done}
use Rattle.hc_sql.specs.Tests.{unless, too_long, test_lengths, keys_of}
use Rattle.hc_sql.specs.Definitions.{is_reserved, new_index, index_refused}
use Rattle.hc_sql.specs.Catalog.{table_named, in_use, test_name, in_order, is_tree, next_tree, repeat_in, set_entry, index_rows, index_entries, put_index, make_index, create_new_index, create_index_in, create_index, or_nothing, clear_index, drop_that_index, drop_index}
use Rattle.hc_sql.proofs.Endings.{OnValue}
use Rattle.hc_sql.proofs.Decided.{in_front, in_back}
use Rattle.hc_sql.proofs.DecidedLooks.{OnFound, Has}
use Rattle.hc_sql.proofs.Searches.{rows_found}
use Rattle.hc_sql.proofs.Shared.{IsAt, at_range}
use Rattle.hc_sql.proofs.Finds.{finds_confined}
use Rattle.hc_sql.proofs.Kept.{Kept, After, IsConfined, IsStill, kept_same, next_confined, still_confined, unless_still, refuse_if_still}
use Rattle.hc_sql.proofs.KeptRows.{IsOnlyWith, at_own, either, entries_of_rows}
use Rattle.hc_sql.proofs.KeptDelete.{Holds}
use Rattle.hc_sql.proofs.KeptDrops.{named_in, none_still}

-- ---- the entries of an index

-- an entry of an index of a table with these rows
abbrev pub OfIndex : List ℕ → List Row → Index → Entry → Type 0
OfIndex name rows index e = (e ≡ index_entry name index) ⊎ ((e ≡ index_name_entry name index) ⊎ ((row : Row) × Among row rows × (e ≡ row_index_entry row.rowid row.values index)))

-- all of them are at these keys
abbrev AllAt : (List ℕ → Type 0) → List ℕ → Index → List Row → Type 0
AllAt Keys name index rows = (e : Entry) → OfIndex name rows index e → IsAt Keys e

-- an index stays, or its entries are at these keys
abbrev Stays : (List ℕ → Type 0) → List ℕ → List Row → List Index → List Index → Type 0
Stays Keys name rows xs ys = (index : Index) → Among index xs → Among index ys ⊎ AllAt Keys name index rows

-- a table with these indexes and rows
abbrev pub with_these : Table → List Index → List Row → Filled
with_these t xs rows = record { table = with_indexes xs t; rows = rows }

module _ (Keys : List ℕ → Type 0) (t : Table) (rows : List Row) (xs ys : List Index) (stays : Stays Keys t.name rows xs ys) where
  -- lists of one entry for each index
  listed_over : (of : Index → Entry) → ((index : Index) → OfIndex t.name rows index (of index)) → (e : Entry) → (IsAt Keys e → ⊥) → Among e (map of xs) → Among e (map of ys)
  listed_over of is e off among =
      let from = from_map of e xs among in
      elim (stays from.x from.among) [
        | inl there ↦ subst (λ (d : Entry). Among d (map of ys)) (sym from.is) (among_map of from.x ys there)
        | inr at ↦ absurd (off (subst (λ (d : Entry). IsAt Keys d) (sym from.is) (at (of from.x) (is from.x))))
      ]

  table_over : (e : Entry) → (IsAt Keys e → ⊥) → Among e (table_entries (with_indexes xs t)) → Among e (table_entries (with_indexes ys t))
  table_over e off (inl same) = inl same
  table_over e off (inr rest) =
      inr (either e (column_entries t.name 1 t.columns) (map (index_entry t.name) xs) rest
      (λ column. among_front e (column_entries t.name 1 t.columns) (map (index_entry t.name) ys) column)
      (λ index. among_back e (column_entries t.name 1 t.columns) (map (index_entry t.name) ys) (listed_over (index_entry t.name) (λ i. inl refl) e off index)))

  row_over : (row : Row) → Among row rows → (e : Entry) → (IsAt Keys e → ⊥) → Among e (row_entries (with_indexes xs t) row.rowid row.values) → Among e (row_entries (with_indexes ys t) row.rowid row.values)
  row_over row here e off (inl own) = inl own
  row_over row here e off (inr indexed) = inr (listed_over (row_index_entry row.rowid row.values) (λ i. inr (inr (row, here, refl))) e off indexed)

  rows_over : (e : Entry) → (IsAt Keys e → ⊥) → Among e (entries_of_rows (with_indexes xs t) rows) → Among e (entries_of_rows (with_indexes ys t) rows)
  rows_over e off among =
      let within = from_flat (λ (row : Row). row_entries (with_indexes xs t) row.rowid row.values) e rows among in
      among_flat (λ (row : Row). row_entries (with_indexes ys t) row.rowid row.values) e within.x rows within.among (row_over within.x within.among e off within.here)

  filled_over : (e : Entry) → (IsAt Keys e → ⊥) → Among e (filled_entries (with_these t xs rows)) → Among e (filled_entries (with_these t ys rows))
  filled_over e off among =
      let old = with_indexes xs t in
      let new = with_indexes ys t in
      either e (table_entries old) (name_entries old ++ entries_of_rows old rows) among
      (λ front. among_front e (table_entries new) (name_entries new ++ entries_of_rows new rows) (table_over e off front))
      (λ rest. among_back e (table_entries new) (name_entries new ++ entries_of_rows new rows)
      (either e (name_entries old) (entries_of_rows old rows) rest
      (λ name. among_front e (name_entries new) (entries_of_rows new rows) (listed_over (index_name_entry t.name) (λ i. inr (inl refl)) e off name))
      (λ row. among_back e (name_entries new) (entries_of_rows new rows) (rows_over e off row))))

-- ---- other indexes for a table

module _ (Keys : List ℕ → Type 0) (t : Table) (into : List Index → List Index) (P : List Row → Type 0)
    (forth : (rows : List Row) → P rows → Stays Keys t.name rows t.indexes (into t.indexes)) (back : (rows : List Row) → P rows → Stays Keys t.name rows (into t.indexes) t.indexes) where
  abbrev changed : Filled → Filled
  changed f = record { table = with_indexes (into f.table.indexes) f.table; rows = f.rows }

  one_over : (f : Filled) → f.table ≡ t → P f.rows → (e : Entry) → (IsAt Keys e → ⊥) → Among e (filled_entries f) → Among e (filled_entries (changed f))
  one_over f same holds e off =
      subst (λ (x : Table). Among e (filled_entries (record { table = x; rows = f.rows })) → Among e (filled_entries (record { table = with_indexes (into x.indexes) x; rows = f.rows }))) (sym same)
      (λ among. filled_over Keys t f.rows t.indexes (into t.indexes) (forth f.rows holds) e off among)

  one_back : (f : Filled) → f.table ≡ t → P f.rows → (e : Entry) → (IsAt Keys e → ⊥) → Among e (filled_entries (changed f)) → Among e (filled_entries f)
  one_back f same holds e off =
      subst (λ (x : Table). Among e (filled_entries (record { table = with_indexes (into x.indexes) x; rows = f.rows })) → Among e (filled_entries (record { table = x; rows = f.rows }))) (sym same)
      (λ among. filled_over Keys t f.rows (into t.indexes) t.indexes (back f.rows holds) e off among)

  all_over : (db : Database) → IsOnlyWith P t db → (e : Entry) → (IsAt Keys e → ⊥) → Among e (entries_of db) → Among e (entries_of (change_indexes t.tree into db))
  all_over [] is e off among = among
  all_over (f ∷ db) is e off among = by_test (nat_eq f.table.tree t.tree) refl (all_over db is.1 e off)
    where
      by_test : (here : Bool) → nat_eq f.table.tree t.tree ≡ here → (Among e (entries_of db) → Among e (entries_of (change_indexes t.tree into db)))
          → Among e (entries_of (if here then changed f ∷ db else f ∷ change_indexes t.tree into db))
      by_test true same rest =
          either e (filled_entries f) (entries_of db) among
          (λ front. among_front e (filled_entries (changed f)) (entries_of db) (let here = is.0 ((Decides-eqb f.table.tree t.tree).0 same) in one_over f here.0 here.1 e off front))
          (λ later. among_back e (filled_entries (changed f)) (entries_of db) later)
      by_test false same rest =
          either e (filled_entries f) (entries_of db) among
          (λ front. among_front e (filled_entries f) (entries_of (change_indexes t.tree into db)) front)
          (λ later. among_back e (filled_entries f) (entries_of (change_indexes t.tree into db)) (rest later))

  all_back : (db : Database) → IsOnlyWith P t db → (e : Entry) → (IsAt Keys e → ⊥) → Among e (entries_of (change_indexes t.tree into db)) → Among e (entries_of db)
  all_back [] is e off among = among
  all_back (f ∷ db) is e off among = by_test (nat_eq f.table.tree t.tree) refl (all_back db is.1 e off) among
    where
      by_test : (here : Bool) → nat_eq f.table.tree t.tree ≡ here → (Among e (entries_of (change_indexes t.tree into db)) → Among e (entries_of db))
          → Among e (entries_of (if here then changed f ∷ db else f ∷ change_indexes t.tree into db)) → Among e (entries_of (f ∷ db))
      by_test true same rest there =
          either e (filled_entries (changed f)) (entries_of db) there
          (λ front. among_front e (filled_entries f) (entries_of db) (let here = is.0 ((Decides-eqb f.table.tree t.tree).0 same) in one_back f here.0 here.1 e off front))
          (λ later. among_back e (filled_entries f) (entries_of db) later)
      by_test false same rest there =
          either e (filled_entries f) (entries_of (change_indexes t.tree into db)) there
          (λ front. among_front e (filled_entries f) (entries_of db) front)
          (λ later. among_back e (filled_entries f) (entries_of db) (rest later))

  indexes_kept : (db : Database) → IsOnlyWith P t db → Kept Keys db (change_indexes t.tree into db)
  indexes_kept db is = record { over = all_over db is; back = all_back db is }

-- A table that a database has is the only one with its tree, and its rows are those that are found.
pub only_with : (P : List Row → Type 0) (t : Table) (db : Database) → Holds t db → ((f : Filled) → Among f db → f.table ≡ t → rows_in db t.tree ≡ f.rows → P f.rows) → IsOnlyWith P t db
only_with P t db is each =
    all_from (λ (f : Filled). f.table.tree ≡ t.tree → (f.table ≡ t) × P f.rows) db (λ f among tree.
    let has = is.1 in
    let one : f ≡ has.filled = one_tree db f has.filled is.0 among has.among (tree ∙ sym (ap (λ (x : Table). x.tree) has.is)) in
    let table : f.table ≡ t = ap (λ (g : Filled). g.table) one ∙ has.is in
    let rows : rows_in db t.tree ≡ f.rows = rows_found db t.tree f (λ g in_db same. one_tree db g f is.0 in_db among (same ∙ sym tree)) among tree in
    (table, each f among table rows))

-- ---- DROP INDEX

-- what a test lets pass stays
pub passes : {A : Type 0} (test : A → Bool) (xs : List A) (x : A) → test x ≡ true → Among x xs → Among x (filter test xs)
passes test [] x is among = absurd among
passes test (y ∷ xs) x is among = by_test (test y) refl among (passes test xs x is)
  where
    by_test : (here : Bool) → test y ≡ here → Among x (y ∷ xs) → (Among x xs → Among x (filter test xs)) → Among x (if here then y ∷ filter test xs else filter test xs)
    by_test true same (inl one) rest = inl one
    by_test true same (inr later) rest = inr (rest later)
    by_test false same (inl one) rest = absurd (true≢false (sym is ∙ (ap test one ∙ same)))
    by_test false same (inr later) rest = rest later

pub passed : {A : Type 0} (test : A → Bool) (xs : List A) (x : A) → Among x (filter test xs) → Among x xs
passed test [] x among = among
passed test (y ∷ xs) x among = by_test (test y) (passed test xs x) among
  where
    by_test : (here : Bool) → (Among x (filter test xs) → Among x xs) → Among x (if here then y ∷ filter test xs else filter test xs) → Among x (y ∷ xs)
    by_test true rest (inl one) = inl one
    by_test true rest (inr later) = inr (rest later)
    by_test false rest later = inr (rest later)

module _ (keys : KeysDiffer) (encodings : NoEncodingBeginsAnother) (ranges : RangesHoldTheirKeys) (t : Table) (index : Index) (listed : Among index t.indexes) where
  abbrev Gone : List ℕ → Type 0
  Gone = InAny (tree_range index.tree ∷ keys_of (index_entries t index))

  abbrev AllGone : List Row → Type 0
  AllGone = AllAt Gone t.name index

  module _ (db : Database) (is : IsDatabase db) (f : Filled) (in_db : Among f db) (same : f.table ≡ t) where
    is_f : IsFilled f
    is_f = all_among IsFilled f db is.filled in_db

    of_f : Among index f.table.indexes
    of_f = subst (λ (x : Table). Among index x.indexes) (sym same) listed

    small : index.tree < 2 ^ 32
    small = (all_among (IsIndex (length f.table.columns)) index f.table.indexes is_f.table.form.indexes of_f).1

    row_gone : (row : Row) → Among row f.rows → IsAt Gone (row_index_entry row.rowid row.values index)
    row_gone row among =
        let e = row_index_entry row.rowid row.values index in
        at_range keys encodings ranges Gone db is e (among_flat filled_entries e f db in_db (row_index_place f row index among of_f)) index.tree [] e.key small tt refl refl (λ key here. inl here)

    all_gone : AllGone f.rows
    all_gone e (inl same) = inr (at_own (index_entries t index) e (inl same))
    all_gone e (inr (inl same)) = inr (at_own (index_entries t index) e (inr (inl same)))
    all_gone e (inr (inr row)) = subst (λ (d : Entry). IsAt Gone d) (sym row.2) (row_gone row.0 row.1)

  module _ (db : Database) (is : Holds t db) where
    -- no other index of the table has its tree
    one_index : (i : Index) → Among i t.indexes → i.tree ≡ index.tree → i ≡ index
    one_index i among same =
        let is_table = (all_among IsFilled is.1.filled db is.0.filled is.1.among).table.form in
        let ordered : Ordered (λ (x y : Index). x.tree < y.tree) t.indexes = subst (λ (x : Table). Ordered (λ (x y : Index). x.tree < y.tree) x.indexes) is.1.is (by_number (λ (x : Index). x.tree) is.1.filled.table.tree is.1.filled.table.indexes is_table.trees).1 in
        one_element (λ (x y : Index). x.tree < y.tree) i index t.indexes ordered (λ less. omega (arith, less, same)) (λ more. omega (arith, more, same)) among listed

    dropped : Kept Gone db (change_indexes t.tree (without_index index.tree) db)
    dropped =
        indexes_kept Gone t (without_index index.tree) AllGone
        (λ rows gone i among. by_test (nat_eq i.tree index.tree) rows gone i refl among)
        (λ rows gone i among. inl (passed (λ (x : Index). not (nat_eq x.tree index.tree)) t.indexes i among)) db
        (only_with AllGone t db is (λ f among table rows. all_gone db is.0 f among table))
      where
        by_test : (same : Bool) → (rows : List Row) → AllGone rows → (i : Index) → nat_eq i.tree index.tree ≡ same → Among i t.indexes → Among i (without_index index.tree t.indexes) ⊎ AllAt Gone t.name i rows
        by_test true rows gone i same among = inr (subst (λ (x : Index). AllAt Gone t.name x rows) (sym (one_index i among ((Decides-eqb i.tree index.tree).0 same))) gone)
        by_test false rows gone i same among = inl (passes (λ (x : Index). not (nat_eq x.tree index.tree)) t.indexes i (ap not same) among)

  owned_index : IsConfined (Holds t) (λ reply db. Unit {0}) (drop_that_index (record { table = t; index = index }))
  owned_index =
      next_confined (Holds t) (λ made. Holds t) (λ reply db. Unit {0}) (refuse_if (is_rule index.kind) (refusal.Reserved index.name)) (λ made. next (clear_index t index) (λ dropped. give (done 0)))
      (still_confined (Holds t) (refuse_if (is_rule index.kind) (refusal.Reserved index.name)) (refuse_if_still (is_rule index.kind) (refusal.Reserved index.name)))
      (λ made. next_confined (Holds t) (λ dropped db. Unit {0}) (λ reply db. Unit {0}) (clear_index t index) (λ dropped. give (done 0)) (λ db is. (dropped db is, tt)) (λ gone. still_confined (λ db. Unit {0}) (give (done 0)) (λ db. refl)))

-- an index that a database has is found by its name
abbrev pub HasIndex : Database → Owned → Type 0
HasIndex db o = Has db o.table × Among o.index o.table.indexes

pub called_in : (indexes : List Index) (name : List ℕ) → OnFound (λ i. Among i indexes) (index_called indexes name)
called_in [] name = tt
called_in (index ∷ indexes) name = by_test (same_name index.name name) (index_called indexes name) (called_in indexes name)
  where
    by_test : (here : Bool) (found : Option Index) → OnFound (λ i. Among i indexes) found → OnFound (λ i. Among i (index ∷ indexes)) (if here then Some index else found)
    by_test true found rest = inl refl
    by_test false None rest = tt
    by_test false (Some i) rest = inr rest

pub owned_in : (db : Database) (name : List ℕ) → OnFound (HasIndex db) (index_of (map (λ (f : Filled). f.table) db) name)
owned_in [] name = tt
owned_in (f ∷ db) name = by_found (index_called f.table.indexes name) (called_in f.table.indexes name) (index_of (map (λ (g : Filled). g.table) db) name) (owned_in db name)
  where
    by_found : (mine : Option Index) → OnFound (λ i. Among i f.table.indexes) mine → (other : Option Owned) → OnFound (HasIndex db) other → OnFound (HasIndex (f ∷ db)) (or_owned f.table mine other)
    by_found None here None there = tt
    by_found None here (Some o) there = (record { filled = there.0.filled; among = inr there.0.among; is = there.0.is }, there.1)
    by_found (Some index) here other there = (record { filled = f; among = inl refl; is = refl }, here)

module _ (keys : KeysDiffer) (encodings : NoEncodingBeginsAnother) (ranges : RangesHoldTheirKeys) where
  pub drop_index_confined : (maybe : Bool) (name : List ℕ) → IsConfined IsDatabase (λ reply db. Unit {0}) (drop_index maybe name)
  drop_index_confined maybe name =
      next_confined IsDatabase (λ tables db. IsDatabase db × OnFound (HasIndex db) (index_of tables name)) (λ reply db. Unit {0}) read_catalog
      (λ tables. or_nothing maybe (refusal.NoIndex name) drop_that_index (index_of tables name))
      (finds_confined IsDatabase (λ db tables. OnFound (HasIndex db) (index_of tables name)) read_catalog (λ db is. (refl, owned_in db name)))
      (λ tables db is. by_found (index_of tables name) db is.0 is.1)
    where
      by_found : (found : Option Owned) (db : Database) → IsDatabase db → OnFound (HasIndex db) found
          → Kept (InAny (or_nothing maybe (refusal.NoIndex name) drop_that_index found db).reads) db (or_nothing maybe (refusal.NoIndex name) drop_that_index found db).db
          × After (λ reply d. Unit {0}) (or_nothing maybe (refusal.NoIndex name) drop_that_index found db)
      by_found None db is has = still_confined (λ d. Unit {0}) (if maybe then give (done 0) else refuse (refusal.NoIndex name)) (none_still maybe (refusal.NoIndex name)) db tt
      by_found (Some o) db is has = owned_index keys encodings ranges o.table o.index has.1 db (is, has.0)

-- ---- CREATE INDEX

on_weaker : {A : Type 0} (P Q : A → Type 0) (r : Result A Refusal) → ((a : A) → P a → Q a) → OnValue P r → OnValue Q r
on_weaker P Q (Ok a) weaker holds = weaker a holds
on_weaker P Q (Err refusal) weaker holds = tt

-- the keys of all these entries are read
abbrev AllRead : List Entry → List Range → Type 0
AllRead es reads = (e : Entry) → Among e es → IsAt (InAny reads) e

-- It changes nothing, and once it is done the keys of these entries are read.
abbrev Notes : List Entry → Task → Type 0
Notes es work = (db : Database) → ((work db).db ≡ db) × OnValue (λ done. AllRead es (work db).reads) (work db).result

still_notes : (es : List Entry) (work : Task) (more : Unit {0} → Task) → IsStill work → ((x : Unit {0}) → Notes es (more x)) → Notes es (next work more)
still_notes es work more still rest db = by_result (work db).result (work db).db (work db).reads (still db)
  where
    by_result : (r : Result (Unit {0}) Refusal) (after : Database) (reads : List Range) → after ≡ db
        → ((go_on r after reads more).db ≡ db) × OnValue (λ done. AllRead es (go_on r after reads more).reads) (go_on r after reads more).result
    by_result (Ok x) after reads same =
        let both = rest x after in (
          both.0 ∙ same,
          on_weaker (λ done. AllRead es (more x after).reads) (λ done. AllRead es (reads ++ (more x after).reads)) (more x after).result
              (λ done all e among. in_back (key_bytes e.tree e.key) reads (more x after).reads (all e among)) both.1,
        )
    by_result (Err refusal) after reads same = (same, tt)

set_notes : (e : Entry) (es : List Entry) (more : Unit {0} → Task) → ((x : Unit {0}) → Notes es (more x)) → Notes (e ∷ es) (next (set_entry e) more)
set_notes e es more rest db =
    let both = rest tt db in
    let mine = keys_of (e ∷ []) in
    let others = (more tt db).reads in (
      both.0,
      on_weaker (λ done. AllRead es others) (λ done. AllRead (e ∷ es) (mine ++ others)) (more tt db).result
          (λ done all d among. elim among [
            | inl same ↦ in_front (key_bytes d.tree d.key) mine others (at_own (e ∷ []) d (inl same))
            | inr later ↦ in_back (key_bytes d.tree d.key) mine others (all d later)
          ]) both.1,
    )

abbrev entries_in : Index → List Row → List Entry
entries_in index rows = map (λ (row : Row). row_index_entry row.rowid row.values index) rows

rows_noted : (t : Table) (index : Index) (before rows : List Row) → Notes (entries_in index rows) (index_rows t index before rows)
rows_noted t index before [] = λ db. (refl, λ e among. absurd among)
rows_noted t index before (row ∷ rows) =
    let e = row_index_entry row.rowid row.values index in
    let repeat = repeat_in t index (indexed_values index row.values) before in
    let es = e ∷ entries_in index rows in
    still_notes es (unless repeat) (λ new. next (test_lengths (e ∷ [])) (λ length. next (set_entry e) (λ set. index_rows t index (before ++ row ∷ []) rows))) (unless_still repeat)
    (λ new. still_notes es (test_lengths (e ∷ [])) (λ length. next (set_entry e) (λ set. index_rows t index (before ++ row ∷ []) rows)) (unless_still (too_long (e ∷ [])))
    (λ length. set_notes e (entries_in index rows) (λ set. index_rows t index (before ++ row ∷ []) rows) (λ set. rows_noted t index (before ++ row ∷ []) rows)))

module _ (t : Table) (index : Index) where
  abbrev put : Unit {0} → Work Reply
  put all = next (put_index t index) (λ put. give (done 0))

  abbrev into : List Index → List Index
  into indexes = indexes ++ index ∷ []

  -- the index is new, and the keys of all its entries are read
  put_kept : (db : Database) → Holds t db → (Keys : List ℕ → Type 0) → AllAt Keys t.name index (rows_in db t.tree) → Kept Keys db (change_indexes t.tree into db)
  put_kept db is Keys all =
      indexes_kept Keys t into (AllAt Keys t.name index) (λ rows at i among. inl (among_front i t.indexes (index ∷ []) among)) (λ rows at i among. one rows at i (among_either i t.indexes (index ∷ []) among)) db
      (only_with (AllAt Keys t.name index) t db is (λ f among table rows. subst (λ rs. AllAt Keys t.name index rs) rows all))
    where
      one : (rows : List Row) → AllAt Keys t.name index rows → (i : Index) → Among i t.indexes ⊎ Among i (index ∷ []) → Among i t.indexes ⊎ AllAt Keys t.name i rows
      one rows at i (inl old) = inl old
      one rows at i (inr (inl new)) = inr (subst (λ (x : Index). AllAt Keys t.name x rows) (sym new) at)
      one rows at i (inr (inr never)) = absurd never

  abbrev catalog_keys : List Range
  catalog_keys = keys_of (index_entries t index) ++ []

  at_reads : (rows : List Row) (rs : List Range) → AllRead (entries_in index rows) rs → AllAt (InAny (rs ++ catalog_keys)) t.name index rows
  at_reads rows rs read e (inl same) =
      in_back (key_bytes e.tree e.key) rs catalog_keys (in_front (key_bytes e.tree e.key) (keys_of (index_entries t index)) [] (at_own (index_entries t index) e (inl same)))
  at_reads rows rs read e (inr (inl same)) =
      in_back (key_bytes e.tree e.key) rs catalog_keys (in_front (key_bytes e.tree e.key) (keys_of (index_entries t index)) [] (at_own (index_entries t index) e (inr (inl same))))
  at_reads rows rs read e (inr (inr row)) =
      in_front (key_bytes e.tree e.key) rs catalog_keys
      (read e (subst (λ (d : Entry). Among d (entries_in index rows)) (sym row.2) (among_map (λ (r : Row). row_index_entry r.rowid r.values index) row.0 rows row.1)))

  -- the database has the index, and the keys of the rest were read before
  abbrev IsBuilt : Database → List Range → Done Reply → Type 0
  IsBuilt db before done = Kept (InAny (before ++ done.reads)) db done.db × OnValue (λ reply. Unit {0}) done.result

  built : (db : Database) → Holds t db → (reads : List Range) → AllRead (entries_in index (rows_in db t.tree)) reads → IsBuilt db (tree_range t.tree ∷ []) (with_reads reads (put tt db))
  built db is reads read = (put_kept db is (InAny (tree_range t.tree ∷ (reads ++ catalog_keys))) (λ e of. inr (at_reads (rows_in db t.tree) reads read e of)), tt)

  abbrev filling : List Row → Work Reply
  filling rows = next (index_rows t index [] rows) put

  filled : IsConfined (Holds t) (λ reply db. Unit {0}) (next (find_rows t) filling)
  filled db is =
      let work = index_rows t index [] (rows_in db t.tree) db in
      let notes = rows_noted t index [] (rows_in db t.tree) db in
      by_result work.result work.db work.reads notes.0 notes.1
    where
      by_result : (r : Result (Unit {0}) Refusal) (after : Database) (reads : List Range) → after ≡ db → OnValue (λ done. AllRead (entries_in index (rows_in db t.tree)) reads) r
          → IsBuilt db (tree_range t.tree ∷ []) (go_on r after reads put)
      by_result (Ok x) after reads same all = subst (λ (d : Database). IsBuilt db (tree_range t.tree ∷ []) (with_reads reads (put tt d))) (sym same) (built db is reads all)
      by_result (Err refusal) after reads same all = (kept_same (InAny (tree_range t.tree ∷ reads)) db after same, tt)

  made : IsConfined (Holds t) (λ reply db. Unit {0}) (make_index t index)
  made =
      next_confined (Holds t) (λ trees. Holds t) (λ reply db. Unit {0}) (refuse_if (not (is_tree index.tree)) refusal.Trees) (λ trees. next (test_lengths (in_order (index_entries t index))) (λ lengths. next (find_rows t) filling))
      (still_confined (Holds t) (refuse_if (not (is_tree index.tree)) refusal.Trees) (refuse_if_still (not (is_tree index.tree)) refusal.Trees))
      (λ trees. next_confined (Holds t) (λ lengths. Holds t) (λ reply db. Unit {0}) (test_lengths (in_order (index_entries t index))) (λ lengths. next (find_rows t) filling)
      (still_confined (Holds t) (test_lengths (in_order (index_entries t index))) (unless_still (too_long (in_order (index_entries t index))))) (λ lengths. filled))

module _ (tables : List Table) (is_unique maybe : Bool) (name table : List ℕ) (columns : List (List ℕ)) where
  new_made : (t : Table) → IsConfined (Holds t) (λ reply db. Unit {0}) (create_new_index tables t is_unique name columns)
  new_made t =
      let index = new_index t name (next_tree tables) is_unique columns in
      next_confined (Holds t) (λ free. Holds t) (λ reply db. Unit {0}) (test_name tables name) (λ free. next (unless (index_refused t columns)) (λ right. make_index t index))
      (still_confined (Holds t) (test_name tables name) (unless_still (option_map refusal.Exists (in_use tables name))))
      (λ free. next_confined (Holds t) (λ right. Holds t) (λ reply db. Unit {0}) (unless (index_refused t columns)) (λ right. make_index t index)
      (still_confined (Holds t) (unless (index_refused t columns)) (unless_still (index_refused t columns))) (λ right. made t index))

  on_table : (t : Table) (there : Bool) → IsConfined (Holds t) (λ reply db. Unit {0}) (if there then give (done 0) else create_new_index tables t is_unique name columns)
  on_table t true = λ db is. (kept_same (InAny []) db db refl, tt)
  on_table t false = new_made t

  abbrev on_found : Table → Work Reply
  on_found t = if maybe && is_some (index_of tables name) then give (done 0) else create_new_index tables t is_unique name columns

  needed : (found : Option Table) → IsConfined (λ db. IsDatabase db × OnFound (Has db) found) (λ reply db. Unit {0}) (next (need (refusal.NoTable table) found) on_found)
  needed None db is = (kept_same (InAny []) db db refl, tt)
  needed (Some t) db is = on_table t (maybe && is_some (index_of tables name)) db is

  abbrev pub Finding : Database → Type 0
  Finding db = IsDatabase db × OnFound (Has db) (table_named tables table)

  in_tables : IsConfined Finding (λ reply db. Unit {0}) (create_index_in tables is_unique maybe name table columns)
  in_tables =
      next_confined Finding (λ free. Finding) (λ reply db. Unit {0}) (refuse_if (is_reserved name) (refusal.Reserved name)) (λ free. next (need (refusal.NoTable table) (table_named tables table)) on_found)
      (still_confined Finding (refuse_if (is_reserved name) (refusal.Reserved name)) (refuse_if_still (is_reserved name) (refusal.Reserved name))) (λ free. needed (table_named tables table))

pub create_index_confined : (is_unique maybe : Bool) (name table : List ℕ) (columns : List (List ℕ)) → IsConfined IsDatabase (λ reply db. Unit {0}) (create_index is_unique maybe name table columns)
create_index_confined is_unique maybe name table columns =
    next_confined IsDatabase (λ tables. Finding tables is_unique maybe name table columns) (λ reply db. Unit {0}) read_catalog (λ tables. create_index_in tables is_unique maybe name table columns)
    (finds_confined IsDatabase (λ db tables. OnFound (Has db) (table_named tables table)) read_catalog (λ db is. (refl, named_in db table)))
    (λ tables. in_tables tables is_unique maybe name table columns)
