-- What two databases that agree on some keys have in common: entries with these keys, the tables whose names are there, and of
-- these the rows.
use Rattle.std.proofs.Common.{◌≡◌, ℕ, ◌+◌, ◌<◌, ◌^◌, List, [], ◌∷◌, ◌++◌, inl, inr, map, flat_map, refl, sym, ap, subst, arith}
use Rattle.std.specs.Str.{str_to_ascii_lowercase}
use Rattle.hc_text.specs.Names.{SameName}
use Rattle.hc_range.specs.declared.range.Range.{Range}
use Rattle.hc_range.specs.Ranges.{InRange}
use Rattle.hc_value.specs.declared.value.Value.{Value}
use Rattle.hc_value.specs.Values.{AreValues}
use Rattle.hc_record.specs.Laws.{NoEncodingBeginsAnother}
use Rattle.hc_key.specs.Keys.{key_bytes}
use Rattle.hc_key.specs.Laws.{KeysDiffer, RangesHoldTheirKeys, range_of}
use Rattle.hc_base.specs.Lookup.{Among}
use Rattle.hc_schema.specs.declared.entry.Entry.{Entry}
use Rattle.hc_schema.specs.declared.table.Table.{Table}
use Rattle.hc_schema.specs.declared.table.Column.{Column}
use Rattle.hc_schema.specs.declared.table.Index.{Index}
use Rattle.hc_schema.specs.declared.row.Row.{Row}
use Rattle.hc_schema.specs.Cells.{cell_of, key_name, number, catalog_range, whole_catalog, tree_range, table_entry, table_entries, name_entries, column_entries, index_entry, row_entry, row_entries}
use Rattle.hc_schema.specs.Databases.{Database, Filled, IsFilled, IsDatabase, Agree, HasCell, entries_of}
use Rattle.hc_schema.proofs.Lowered.{lowered}
use Rattle.hc_schema.proofs.Orders.{among_map, among_front, among_back, among_either, from_map, among_flat, all_among, same_lists}
use Rattle.hc_schema.proofs.EntryKinds.{text_of, nat_of, first_of, second_of, fourth_of, table_place, column_place, index_place, row_place}
use Rattle.hc_schema.proofs.GoodEntries.{one_entry}
use Rattle.hc_schema.proofs.SamePlaces.{by_number, never_both, IsBefore, columns_ordered}
use Rattle.hc_schema.proofs.Recovered.{alias_same, columns_same, twin, columns_over, indexes_over, rows_over}
use Rattle.hc_schema.proofs.SameDatabases.{into_order, from_order, good}
use Rattle.hc_schema.specs.Databases.{filled_entries}

-- its key is among the keys
abbrev pub IsAt : (List ℕ → Type 0) → Entry → Type 0
IsAt Keys e = Keys (key_bytes e.tree e.key)

-- an entry at one of the keys is one of the other database too
pub across : KeysDiffer → NoEncodingBeginsAnother → (Keys : List ℕ → Type 0) (a b : Database) → IsDatabase a → IsDatabase b → Agree Keys a b
    → (e : Entry) → IsAt Keys e → Among e (entries_of a) → Among e (entries_of b)
across keys encodings Keys a b is_a is_b agree e at among =
    let here : HasCell a (cell_of e) = into_order (cell_of e) (map cell_of (entries_of a)) (among_map cell_of e (entries_of a) among) in
    let there : HasCell b (cell_of e) = (agree (cell_of e) at).0 here in
    let from = from_map cell_of (cell_of e) (entries_of b) (from_order (cell_of e) (map cell_of (entries_of b)) there) in
    let one : e ≡ from.x = one_entry keys encodings e from.x (good a is_a e among) (good b is_b from.x from.among) from.is in
    subst (λ d. Among d (entries_of b)) (sym one) from.among

pub agree_back : (Keys : List ℕ → Type 0) (a b : Database) → Agree Keys a b → Agree Keys b a
agree_back Keys a b agree cell at = let both = agree cell at in (both.1, both.0)

-- ---- the keys of the entries of a table

pub record ColumnKey (name : List ℕ) (e : Entry) : Type 0 where
  pub tree : e.tree ≡ 0
  pub rest : List Value
  pub key : e.key ≡ key_name name ∷ rest

pub column_at : (name : List ℕ) (k : ℕ) (columns : List Column) (e : Entry) → Among e (column_entries name k columns) → ColumnKey name e
column_at name k [] e among = absurd among
column_at name k (column ∷ columns) e (inl same) = record { tree = ap (λ (d : Entry). d.tree) same; rest = number 0 ∷ number k ∷ []; key = ap (λ (d : Entry). d.key) same }
column_at name k (column ∷ columns) e (inr among) = column_at name (k + 1) columns e among

module _ (keys : KeysDiffer) (encodings : NoEncodingBeginsAnother) (ranges : RangesHoldTheirKeys) (Keys : List ℕ → Type 0) where
  -- all keys of a range are among them
  abbrev pub Covers : Range → Type 0
  Covers range = (key : List ℕ) → InRange range key → Keys key

  -- a key of the tree that begins with the values is among them
  in_range : (tree : ℕ) (values rest : List Value) → tree < 2 ^ 32 → AreValues values → AreValues (values ++ rest) → Covers (range_of tree values) → Keys (key_bytes tree (values ++ rest))
  in_range tree values rest small are all covers = covers (key_bytes tree (values ++ rest)) ((ranges tree values small are tree (values ++ rest) small all).1 (refl, (rest, refl)))

  -- an entry of a database whose key begins so is at one of them
  pub at_range : (db : Database) → IsDatabase db → (e : Entry) → Among e (entries_of db) → (tree : ℕ) (values rest : List Value) → tree < 2 ^ 32 → AreValues values
      → e.tree ≡ tree → e.key ≡ values ++ rest → Covers (range_of tree values) → IsAt Keys e
  at_range db is e among tree values rest small are is_tree is_key covers =
      let all : AreValues (values ++ rest) = subst AreValues is_key (good db is e among).key in
      let at : Keys (key_bytes tree (values ++ rest)) = in_range tree values rest small are all covers in
      subst (λ t. Keys (key_bytes t e.key)) (sym is_tree) (subst (λ l. Keys (key_bytes tree l)) (sym is_key) at)

  module _ (db : Database) (is : IsDatabase db) (f : Filled) (in_db : Among f db) where
    pub is_filled : IsFilled f
    is_filled = all_among IsFilled f db is.filled in_db

    entry_in : (e : Entry) → Among e (filled_entries f) → Among e (entries_of db)
    entry_in e among = among_flat filled_entries e f db in_db among

    name_value : AreValues (key_name f.table.name ∷ [])
    name_value = (lowered f.table.name is_filled.table.form.name, tt)

    pub table_at : Covers (catalog_range f.table.name) → IsAt Keys (table_entry f.table)
    table_at covers = at_range db is (table_entry f.table) (entry_in (table_entry f.table) (table_place f)) 0 (key_name f.table.name ∷ []) (number 0 ∷ []) (omega arith) name_value refl refl covers

    pub columns_at : Covers (catalog_range f.table.name) → (e : Entry) → Among e (column_entries f.table.name 1 f.table.columns) → IsAt Keys e
    columns_at covers e among =
        let is_key = column_at f.table.name 1 f.table.columns e among in
        at_range db is e (entry_in e (column_place f e among)) 0 (key_name f.table.name ∷ []) is_key.rest (omega arith) name_value is_key.tree is_key.key covers

    pub index_at : Covers (catalog_range f.table.name) → (index : Index) → Among index f.table.indexes → IsAt Keys (index_entry f.table.name index)
    index_at covers index among =
        at_range db is (index_entry f.table.name index) (entry_in (index_entry f.table.name index) (index_place f index among)) 0 (key_name f.table.name ∷ []) (number index.tree ∷ []) (omega arith) name_value refl refl covers

    -- all entries in its catalog range
    pub catalog_at : Covers (catalog_range f.table.name) → (e : Entry) → Among e (table_entries f.table) → IsAt Keys e
    catalog_at covers e (inl same) = subst (IsAt Keys) (sym same) (table_at covers)
    catalog_at covers e (inr rest) = elim (among_either e (column_entries f.table.name 1 f.table.columns) (map (index_entry f.table.name) f.table.indexes) rest) [
      | inl column ↦ columns_at covers e column
      | inr listed ↦
          let from = from_map (index_entry f.table.name) e f.table.indexes listed in subst (IsAt Keys) (sym from.is) (index_at covers from.x from.among)
    ]

    -- its entries in the catalog, where the whole catalog is read
    pub whole_at : Covers whole_catalog → (e : Entry) → Among e (table_entries f.table) → IsAt Keys e
    whole_at covers e among =
        at_range db is e (entry_in e (among_front e (table_entries f.table) (name_entries f.table ++ flat_map (λ (row : Row). row_entries f.table row.rowid row.values) f.rows) among))
        0 [] e.key (omega arith) tt (in_tree among) refl covers
      where
        in_tree : Among e (table_entries f.table) → e.tree ≡ 0
        in_tree (inl same) = ap (λ (d : Entry). d.tree) same
        in_tree (inr rest) = elim (among_either e (column_entries f.table.name 1 f.table.columns) (map (index_entry f.table.name) f.table.indexes) rest) [
          | inl column ↦ (column_at f.table.name 1 f.table.columns e column).tree
          | inr listed ↦ ap (λ (d : Entry). d.tree) (from_map (index_entry f.table.name) e f.table.indexes listed).is
        ]

    pub row_of_tree_at : Covers (tree_range f.table.tree) → (row : Row) → Among row f.rows → IsAt Keys (row_entry f.table row.rowid row.values)
    row_of_tree_at covers row among =
        let e = row_entry f.table row.rowid row.values in
        at_range db is e (entry_in e (row_place f row among)) f.table.tree [] e.key is_filled.table.form.tree.1 tt refl refl covers

  module _ (a b : Database) (is_a : IsDatabase a) (is_b : IsDatabase b) (agree : Agree Keys a b) where
    abbrev forth : (e : Entry) → IsAt Keys e → Among e (entries_of a) → Among e (entries_of b)
    forth = across keys encodings Keys a b is_a is_b agree

    abbrev back : (e : Entry) → IsAt Keys e → Among e (entries_of b) → Among e (entries_of a)
    back = across keys encodings Keys b a is_b is_a (agree_back Keys a b agree)

    -- the same table in the other database
    pub record Shown (f : Filled) : Type 0 where
      pub other : Filled
      pub among : Among other b
      pub same : f.table ≡ other.table

    -- its entries in the catalog are at the keys, in each database that has a table of its name
    abbrev pub TableAt : List ℕ → Type 0
    TableAt name = (db : Database) → IsDatabase db → (h : Filled) → Among h db → h.table.name ≡ name → (e : Entry) → Among e (table_entries h.table) → IsAt Keys e

    pub shown_at : (f : Filled) → Among f a → TableAt f.table.name → Shown f
    shown_at f in_a at =
        let twin_is = twin a b is_a is_b (IsAt Keys) forth f (at a is_a f in_a refl (table_entry f.table) (inl refl)) in_a in
        let g = twin_is.other in
        let in_b = twin_is.among in
        let values = ap (λ (e : Entry). e.values) twin_is.same in
        let is_f = is_filled a is_a f in_a in
        let is_g = is_filled b is_b g in_b in
        let name : f.table.name ≡ g.table.name = ap (λ l. text_of (first_of l)) values in
        let tree : f.table.tree ≡ g.table.tree = ap (λ l. nat_of (second_of l)) values in
        let alias : f.table.alias ≡ g.table.alias = alias_same f.table.alias g.table.alias (ap (λ l. nat_of (fourth_of l)) values) in
        let names : SameName f.table.name g.table.name = ap str_to_ascii_lowercase name in
        let column_place : (h : Filled) → (e : Entry) → Among e (column_entries h.table.name 1 h.table.columns) → Among e (table_entries h.table) =
        λ h e among. inr (among_front e (column_entries h.table.name 1 h.table.columns) (map (index_entry h.table.name) h.table.indexes) among) in
        let index_place : (h : Filled) → (index : Index) → Among index h.table.indexes → Among (index_entry h.table.name index) (table_entries h.table) =
        λ h index among. inr (among_back (index_entry h.table.name index) (column_entries h.table.name 1 h.table.columns) (map (index_entry h.table.name) h.table.indexes) (among_map (index_entry h.table.name) index h.table.indexes among)) in
        let columns : f.table.columns ≡ g.table.columns =
        columns_same f.table.name g.table.name 1 f.table.columns g.table.columns
        (same_lists IsBefore (column_entries f.table.name 1 f.table.columns) (column_entries g.table.name 1 g.table.columns) (λ x y less more. omega (arith, less, more))
        (columns_ordered f.table.name 1 f.table.columns).1 (columns_ordered g.table.name 1 g.table.columns).1
        (λ e among. columns_over a b is_a is_b (IsAt Keys) forth f g in_a in_b names tree alias e (at a is_a f in_a refl e (column_place f e among)) among)
        (λ e among. columns_over b a is_b is_a (IsAt Keys) back g f in_b in_a (sym names) (sym tree) (sym alias) e (at b is_b g in_b (sym name) e (column_place g e among)) among)) in
        let indexes : f.table.indexes ≡ g.table.indexes =
        same_lists (λ (x y : Index). x.tree < y.tree) f.table.indexes g.table.indexes (never_both (λ (x : Index). x.tree))
        (by_number (λ (x : Index). x.tree) f.table.tree f.table.indexes is_f.table.form.trees).1 (by_number (λ (x : Index). x.tree) g.table.tree g.table.indexes is_g.table.form.trees).1
        (λ index among. indexes_over a b is_a is_b (IsAt Keys) forth f g in_a in_b names tree alias is_f index (at a is_a f in_a refl (index_entry f.table.name index) (index_place f index among)) among)
        (λ index among. indexes_over b a is_b is_a (IsAt Keys) back g f in_b in_a (sym names) (sym tree) (sym alias) is_g index (at b is_b g in_b (sym name) (index_entry g.table.name index) (index_place g index among)) among) in
        record { other = g; among = in_b; same = λ i. record { name = name i; tree = tree i; columns = columns i; alias = alias i; indexes = indexes i } }

    pub shown : (f : Filled) → Among f a → Covers (catalog_range f.table.name) → Shown f
    shown f in_a covers = shown_at f in_a (λ db is h in_db same. catalog_at db is h in_db (subst (λ n. Covers (catalog_range n)) (sym same) covers))

    -- a row whose key is one of the keys is in the same table of the other database
    pub row_over : (f g : Filled) → Among f a → Among g b → f.table ≡ g.table → (row : Row) → IsAt Keys (row_entry f.table row.rowid row.values) → Among row f.rows → Among row g.rows
    row_over f g in_a in_b same row at among =
        rows_over a b is_a is_b (IsAt Keys) forth f g in_a in_b (ap (λ (t : Table). str_to_ascii_lowercase t.name) same) (ap (λ (t : Table). t.tree) same) (ap (λ (t : Table). t.alias) same)
        (is_filled a is_a f in_a) row at among
