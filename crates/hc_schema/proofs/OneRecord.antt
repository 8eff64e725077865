-- A key has one record in a database.
use Rattle.std.proofs.Common.{◌≡◌, ◌≢◌, ℕ, zero, suc, ◌+◌, ◌*◌, ◌<◌, ◌≤◌, ℤ, pos, negsuc, List, [], ◌∷◌, ◌++◌, ◌⊎◌, inl, inr, map, flat_map, length, refl, sym, ap, subst, ◌∙◌, arith}
use Rattle.std.specs.Prelude.{◌<ℤ◌}
use Rattle.std.specs.List.{AllByRecursion}
use Rattle.hc_text.specs.Names.{SameName}
use Rattle.hc_value.specs.declared.value.Value.{Value}
use Rattle.hc_value.specs.declared.value.Value.TheVariants.{Null, Int, Text, Blob}
use Rattle.hc_record.specs.Laws.{NoEncodingBeginsAnother}
use Rattle.hc_key.specs.Keys.{key_bytes}
use Rattle.hc_key.specs.Laws.{KeysDiffer}
use Rattle.hc_base.specs.Lookup.{Among}
use Rattle.hc_core.specs.declared.cells.Cell.{Cell}
use Rattle.hc_schema.specs.declared.row.Row.{Row}
use Rattle.hc_schema.specs.declared.entry.Entry.{Entry}
use Rattle.hc_schema.specs.declared.table.Index.{Index}
use Rattle.hc_schema.specs.Tables.{NamesDiffer, AreDistinct, index_names}
use Rattle.hc_schema.specs.Cells.{cell_of, table_entry, column_entries, index_entry, index_name_entry, row_entry, row_index_entry, indexed_values}
use Rattle.hc_schema.specs.Databases.{Database, Filled, IsFilled, IsDatabase, filled_entries, entries_of, names_of, trees_of, cells_of, HasCell}
use Rattle.hc_schema.proofs.TableCells.{all_back}
use Rattle.hc_schema.proofs.NameLists.{new_from}
use Rattle.hc_schema.proofs.Orders.{among_map, among_flat, From, from_map, Within, from_flat, all_among, Ordered, one_element}
use Rattle.hc_schema.proofs.EntryKinds.{kind_in, kind_of, second_kind, text_first, text_of, int_of, nat_of, first_of, second_of, third_of, Place, of_table, of_column, of_index, of_name, of_row, of_row_index, place_of, kind_at, kind_is, column_name, column_kind, column_here, IndexHere, index_here, RowHere, row_here}
use Rattle.hc_schema.proofs.GoodEntries.{IsGood}
use Rattle.hc_schema.proofs.SamePlaces.{by_number, IsBefore, columns_ordered, rows_ordered, never_below, names_in, one_name, one_tree, placed}
use Rattle.hc_schema.proofs.SameDatabases.{from_order, good}

-- ---- the kind of an entry is in its key, but for tables and names of indexes

text_cases : (values : List Value) → (text_first values ≡ 0) ⊎ (text_first values ≡ 1)
text_cases [] = inr refl
text_cases (Null ∷ values) = inl refl
text_cases (Int n ∷ values) = inr refl
text_cases (Text t ∷ values) = inr refl
text_cases (Blob b ∷ values) = inr refl

second_by_key : (second : Value) (rest v w : List Value) (n : ℕ) → n ≢ 0 → n ≢ 3 → second_kind second rest v ≡ n → second_kind second rest w ≡ n
second_by_key Null rest v w n a b is = is
second_by_key (Text t) rest v w n a b is = is
second_by_key (Blob t) rest v w n a b is = is
second_by_key (Int (negsuc m)) rest v w n a b is = is
second_by_key (Int (pos (suc m))) [] v w n a b is = is
second_by_key (Int (pos (suc m))) (r ∷ rest) v w n a b is = is
second_by_key (Int (pos zero)) (r ∷ rest) v w n a b is = is
second_by_key (Int (pos zero)) [] v w n a b is =
    elim (text_cases v) [ inl none ↦ absurd (omega (arith, none, a, is)) | inr one ↦ absurd (omega (arith, one, b, is)) ]

kind_by_key : (tree : ℕ) (key v w : List Value) (n : ℕ) → n ≢ 0 → n ≢ 3 → kind_in tree key v ≡ n → kind_in tree key w ≡ n
kind_by_key (suc tree) key v w n a b is = is
kind_by_key zero [] v w n a b is = is
kind_by_key zero (x ∷ []) v w n a b is = is
kind_by_key zero (x ∷ second ∷ rest) v w n a b is = second_by_key second rest v w n a b is

-- two entries with one key
abbrev pub OneKey : Entry → Entry → Type 0
OneKey e f = (e.tree ≡ f.tree) × (e.key ≡ f.key)

kind_over : (e f : Entry) (n : ℕ) → OneKey e f → n ≢ 0 → n ≢ 3 → kind_of e ≡ n → kind_of f ≡ n
kind_over e f n one a b is =
    let same : kind_in f.tree f.key e.values ≡ n = ap (λ t. kind_in t f.key e.values) (sym one.0) ∙ ap (λ k. kind_in e.tree k e.values) (sym one.1) ∙ is in
    kind_by_key f.tree f.key e.values f.values n a b same

back_key : (e f : Entry) → OneKey e f → OneKey f e
back_key e f one = (sym one.0, sym one.1)

-- ---- whose a number or a name is

pub ordered_apart : {A : Type 0} (R : A → A → Type 0) (xs ys : List A) (x y : A) → Ordered R (xs ++ ys) → Among x xs → Among y ys → R x y
ordered_apart R [] ys x y order a b = absurd a
ordered_apart R (z ∷ xs) ys x y order (inl same) b = subst (λ w. R w y) (sym same) (all_among (R z) y ys (all_back (R z) xs ys order.0) b)
ordered_apart R (z ∷ xs) ys x y order (inr a) b = ordered_apart R xs ys x y order.1 a b

pub ordered_back : {A : Type 0} (R : A → A → Type 0) (xs ys : List A) → Ordered R (xs ++ ys) → Ordered R ys
ordered_back R [] ys order = order
ordered_back R (x ∷ xs) ys order = ordered_back R xs ys order.1

pub owner : {B : Type 0} (E : B → B → Type 0) (parts : Filled → List B) (db : Database) (f g : Filled) (x y : B) → Ordered (λ a b. E a b → ⊥) (flat_map parts db) → Among f db → Among g db → Among x (parts f) → Among y (parts g) → E x y → E y x → f ≡ g
owner E parts [] f g x y order a b p q same back = absurd a
owner E parts (h ∷ db) f g x y order (inl a) (inl b) p q same back = a ∙ sym b
owner E parts (h ∷ db) f g x y order (inl a) (inr b) p q same back =
    absurd (ordered_apart (λ s t. E s t → ⊥) (parts h) (flat_map parts db) x y order (subst (λ k. Among x (parts k)) a p) (among_flat parts y g db b q) same)
owner E parts (h ∷ db) f g x y order (inr a) (inl b) p q same back =
    absurd (ordered_apart (λ s t. E s t → ⊥) (parts h) (flat_map parts db) y x order (subst (λ k. Among y (parts k)) b q) (among_flat parts x f db a p) back)
owner E parts (h ∷ db) f g x y order (inr a) (inr b) p q same back =
    owner E parts db f g x y (ordered_back (λ s t. E s t → ⊥) (parts h) (flat_map parts db) order) a b p q same back

abbrev pub SameNumber : ℕ → ℕ → Type 0
SameNumber m n = m ≡ n

pub distinct_ordered : (ns : List ℕ) → AreDistinct ns → Ordered (λ m n. SameNumber m n → ⊥) ns
distinct_ordered [] distinct = tt
distinct_ordered (n ∷ ns) distinct = (distinct.0, distinct_ordered ns distinct.1)

pub differ_ordered : (names : List (List ℕ)) → NamesDiffer names → Ordered (λ a b. SameName a b → ⊥) names
differ_ordered [] differ = tt
differ_ordered (name ∷ names) differ = (differ.0, differ_ordered names differ.1)

pub indexes_ordered : (indexes : List Index) → NamesDiffer (index_names indexes) → Ordered (λ (i j : Index). SameName i.name j.name → ⊥) indexes
indexes_ordered [] differ = tt
indexes_ordered (index ∷ indexes) differ = (new_from (λ (i : Index). i.name) index.name indexes differ.0, indexes_ordered indexes differ.1)

abbrev pub tree_numbers_in : Filled → List ℕ
tree_numbers_in f = f.table.tree ∷ map (λ (index : Index). index.tree) f.table.indexes

-- the last value of a list
abbrev pub last_of : List Value → Value
last_of [] = Null
last_of (v ∷ []) = v
last_of (v ∷ w ∷ values) = last_of (w ∷ values)

pub last_is : (values : List Value) (v : Value) → last_of (values ++ v ∷ []) ≡ v
last_is [] v = refl
last_is (w ∷ []) v = refl
last_is (w ∷ x ∷ values) v = last_is (x ∷ values) v

-- ---- two entries with one key are one

module _ (db : Database) (is : IsDatabase db) where
  filled_of : (f : Filled) → Among f db → IsFilled f
  filled_of f among = all_among IsFilled f db is.filled among

  pub same_index : (f : Filled) (i j : Index) → Among f db → Among i f.table.indexes → Among j f.table.indexes → i.tree ≡ j.tree → i ≡ j
  same_index f i j in_db a b same =
      one_element (λ (x y : Index). x.tree < y.tree) i j f.table.indexes (by_number (λ (x : Index). x.tree) f.table.tree f.table.indexes (filled_of f in_db).table.form.trees).1
      (λ less. omega (arith, less, same)) (λ less. omega (arith, less, same)) a b

  pub same_row : (f : Filled) (r s : Row) → Among f db → Among r f.rows → Among s f.rows → r.rowid ≡ s.rowid → r ≡ s
  same_row f r s in_db a b same =
      one_element (λ (x y : Row). x.rowid <ℤ y.rowid) r s f.rows (rows_ordered f.rows (filled_of f in_db).ascend)
      (λ less. never_less r.rowid s.rowid same less) (λ less. never_less s.rowid r.rowid (sym same) less) a b
    where
      never_less : (m n : ℤ) → m ≡ n → m <ℤ n → ⊥
      never_less m n same less = let itself : n <ℤ n = subst (λ k. k <ℤ n) same less in never_below n n itself itself

  columns_one : (f g : Filled) (e d : Entry) → Among f db → Among g db → OneKey e d → Among e (column_entries f.table.name 1 f.table.columns) → Among d (filled_entries g) → e ≡ d
  columns_one f g e d in_f in_g one a b =
      let there = column_here g (placed g (filled_of g in_g)) d b (kind_over e d 1 one (omega arith) (omega arith) (column_kind f e a)) in
      let names : SameName f.table.name g.table.name =
      sym (column_name f.table.name 1 f.table.columns e a) ∙ ap (λ k. text_of (first_of k)) one.1 ∙ column_name g.table.name 1 g.table.columns d there in
      let here = subst (λ (h : Filled). Among d (column_entries h.table.name 1 h.table.columns)) (sym (one_name db f g is in_f in_g names)) there in
      let third = ap (λ k. nat_of (third_of k)) one.1 in
      one_element IsBefore e d (column_entries f.table.name 1 f.table.columns) (columns_ordered f.table.name 1 f.table.columns).1 (λ less. omega (arith, less, third)) (λ less. omega (arith, less, third)) a here

  indexes_one : (f g : Filled) (e d : Entry) (i : Index) → Among f db → Among g db → OneKey e d → Among i f.table.indexes → e ≡ index_entry f.table.name i → kind_of e ≡ 2 → Among d (filled_entries g) → e ≡ d
  indexes_one f g e d i in_f in_g one a e_is kind b =
      let there = index_here g (placed g (filled_of g in_g)) d b (kind_over e d 2 one (omega arith) (omega arith) kind) in
      let keys : (index_entry f.table.name i).key ≡ (index_entry g.table.name there.index).key = sym (ap (λ (x : Entry). x.key) e_is) ∙ one.1 ∙ ap (λ (x : Entry). x.key) there.is in
      let same : f ≡ g = one_name db f g is in_f in_g (ap (λ k. text_of (first_of k)) keys) in
      let j_here = subst (λ (h : Filled). Among there.index h.table.indexes) (sym same) there.among in
      let index : i ≡ there.index = same_index f i there.index in_f a j_here (ap (λ k. nat_of (second_of k)) keys) in
      e_is ∙ ap (λ x. index_entry f.table.name x) index ∙ ap (λ (h : Filled). index_entry h.table.name there.index) same ∙ sym there.is

  rows_one : (f g : Filled) (e d : Entry) (r : Row) → Among f db → Among g db → OneKey e d → Among r f.rows → e ≡ row_entry f.table r.rowid r.values → kind_of e ≡ 4 → Among d (filled_entries g) → e ≡ d
  rows_one f g e d r in_f in_g one a e_is kind b =
      let there = row_here g (placed g (filled_of g in_g)) d b (kind_over e d 4 one (omega arith) (omega arith) kind) in
      let tree : f.table.tree ≡ g.table.tree = sym (ap (λ (x : Entry). x.tree) e_is) ∙ one.0 ∙ ap (λ (x : Entry). x.tree) there.is in
      let keys : (row_entry f.table r.rowid r.values).key ≡ (row_entry g.table there.row.rowid there.row.values).key = sym (ap (λ (x : Entry). x.key) e_is) ∙ one.1 ∙ ap (λ (x : Entry). x.key) there.is in
      let same : f ≡ g = one_tree db f g is in_f in_g tree in
      let row : r ≡ there.row = same_row f r there.row in_f a (subst (λ (h : Filled). Among there.row h.rows) (sym same) there.among) (ap (λ k. int_of (first_of k)) keys) in
      e_is ∙ ap (λ (x : Row). row_entry f.table x.rowid x.values) row ∙ ap (λ (h : Filled). row_entry h.table there.row.rowid there.row.values) same ∙ sym there.is

  row_indexes_one : (f g : Filled) (e d : Entry) (r s : Row) (i j : Index) → Among f db → Among g db → OneKey e d → Among r f.rows → Among i f.table.indexes → Among s g.rows → Among j g.table.indexes
      → e ≡ row_index_entry r.rowid r.values i → d ≡ row_index_entry s.rowid s.values j → e ≡ d
  row_indexes_one f g e d r s i j in_f in_g one a p b q e_is d_is =
      let tree : i.tree ≡ j.tree = sym (ap (λ (x : Entry). x.tree) e_is) ∙ one.0 ∙ ap (λ (x : Entry). x.tree) d_is in
      let same : f ≡ g =
      owner SameNumber tree_numbers_in db f g i.tree j.tree (distinct_ordered (trees_of db) is.trees) in_f in_g (inr (among_map (λ (x : Index). x.tree) i f.table.indexes p)) (inr (among_map (λ (x : Index). x.tree) j g.table.indexes q)) tree (sym tree) in
      let index : i ≡ j = same_index f i j in_f p (subst (λ (h : Filled). Among j h.table.indexes) (sym same) q) tree in
      let keys : (row_index_entry r.rowid r.values i).key ≡ (row_index_entry s.rowid s.values j).key = sym (ap (λ (x : Entry). x.key) e_is) ∙ one.1 ∙ ap (λ (x : Entry). x.key) d_is in
      let rowid : r.rowid ≡ s.rowid =
      ap int_of (sym (last_is (indexed_values i r.values) (Int r.rowid)) ∙ ap last_of keys ∙ last_is (indexed_values j s.values) (Int s.rowid)) in
      let row : r ≡ s = same_row f r s in_f a (subst (λ (h : Filled). Among s h.rows) (sym same) b) rowid in
      e_is ∙ ap (λ (x : Row). row_index_entry x.rowid x.values i) row ∙ ap (λ (x : Index). row_index_entry s.rowid s.values x) index ∙ sym d_is

  tables_one : (f g : Filled) (e d : Entry) → Among f db → Among g db → OneKey e d → e ≡ table_entry f.table → d ≡ table_entry g.table → e ≡ d
  tables_one f g e d in_f in_g one e_is d_is =
      let keys : (table_entry f.table).key ≡ (table_entry g.table).key = sym (ap (λ (x : Entry). x.key) e_is) ∙ one.1 ∙ ap (λ (x : Entry). x.key) d_is in
      let same : f ≡ g = one_name db f g is in_f in_g (ap (λ k. text_of (first_of k)) keys) in
      e_is ∙ ap (λ (h : Filled). table_entry h.table) same ∙ sym d_is

  -- a table and an index have different names
  table_no_index : (f g : Filled) (j : Index) → Among f db → Among g db → Among j g.table.indexes → SameName f.table.name j.name → ⊥
  table_no_index f g j in_f in_g q names =
      let same : f ≡ g = owner SameName names_in db f g f.table.name j.name (differ_ordered (names_of db) is.names) in_f in_g (inl refl) (inr (among_map (λ (x : Index). x.name) j g.table.indexes q)) names (sym names) in
      let here = subst (λ (h : Filled). Among j h.table.indexes) (sym same) q in
      all_among (λ other. SameName f.table.name other → ⊥) j.name (index_names f.table.indexes) (filled_of f in_f).table.form.index_names.0 (among_map (λ (x : Index). x.name) j f.table.indexes here) names

  names_one : (f g : Filled) (e d : Entry) (i j : Index) → Among f db → Among g db → OneKey e d → Among i f.table.indexes → Among j g.table.indexes → e ≡ index_name_entry f.table.name i → d ≡ index_name_entry g.table.name j → e ≡ d
  names_one f g e d i j in_f in_g one p q e_is d_is =
      let keys : (index_name_entry f.table.name i).key ≡ (index_name_entry g.table.name j).key = sym (ap (λ (x : Entry). x.key) e_is) ∙ one.1 ∙ ap (λ (x : Entry). x.key) d_is in
      let names : SameName i.name j.name = ap (λ k. text_of (first_of k)) keys in
      let same : f ≡ g = owner SameName names_in db f g i.name j.name (differ_ordered (names_of db) is.names) in_f in_g (inr (among_map (λ (x : Index). x.name) i f.table.indexes p)) (inr (among_map (λ (x : Index). x.name) j g.table.indexes q)) names (sym names) in
      let here = subst (λ (h : Filled). Among j h.table.indexes) (sym same) q in
      let index : i ≡ j =
      one_element (λ (x y : Index). SameName x.name y.name → ⊥) i j f.table.indexes (indexes_ordered f.table.indexes (filled_of f in_f).table.form.index_names.1) (λ differ. differ names) (λ differ. differ (sym names)) p here in
      e_is ∙ ap (λ x. index_name_entry f.table.name x) index ∙ ap (λ (h : Filled). index_name_entry h.table.name j) same ∙ sym d_is

  module _ (f g : Filled) (e d : Entry) (in_f : Among f db) (in_g : Among g db) (one : OneKey e d) (a : Among e (filled_entries f)) (b : Among d (filled_entries g)) where
    kind_e : (place : Place f e) → kind_of e ≡ kind_at f (placed f (filled_of f in_f)) e place
    kind_e place = kind_is f (placed f (filled_of f in_f)) e place

    kind_d : (place : Place g d) → kind_of d ≡ kind_at g (placed g (filled_of g in_g)) d place
    kind_d place = kind_is g (placed g (filled_of g in_g)) d place

    both : Place f e → Place g d → e ≡ d
    unfolding kind_at
    both (of_column p) there = columns_one f g e d in_f in_g one p b
    both (of_index i p same) there = indexes_one f g e d i in_f in_g one p same (kind_e (of_index i p same)) b
    both (of_row r p same) there = rows_one f g e d r in_f in_g one p same (kind_e (of_row r p same)) b
    both (of_row_index r i p q same) (of_row_index s j u v other) = row_indexes_one f g e d r s i j in_f in_g one p q u v same other
    both (of_row_index r i p q same) there =
        absurd (omega (arith, kind_d there, kind_over e d 5 one (omega arith) (omega arith) (kind_e (of_row_index r i p q same))))
    both (of_table same) (of_table other) = tables_one f g e d in_f in_g one same other
    both (of_table same) (of_name j q other) =
        absurd (table_no_index f g j in_f in_g q (ap (λ k. text_of (first_of k)) (sym (ap (λ (x : Entry). x.key) same) ∙ one.1 ∙ ap (λ (x : Entry). x.key) other)))
    both (of_name i p same) (of_table other) =
        absurd (table_no_index g f i in_g in_f p (ap (λ k. text_of (first_of k)) (sym (ap (λ (x : Entry). x.key) other) ∙ sym one.1 ∙ ap (λ (x : Entry). x.key) same)))
    both (of_name i p same) (of_name j q other) = names_one f g e d i j in_f in_g one p q same other
    both here there =
        absurd (omega (arith, kind_e here, kind_over d e (kind_at g (placed g (filled_of g in_g)) d there) (back_key e d one) (omega arith) (omega arith) (kind_d there)))

    pub one_entry_here : e ≡ d
    one_entry_here = both (place_of f e a) (place_of g d b)

pub one_record : KeysDiffer → (db : Database) → IsDatabase db → (cell other : Cell) → HasCell db cell → HasCell db other → cell.key ≡ other.key → cell ≡ other
one_record keys db is cell other has also same =
    let from = from_map cell_of cell (entries_of db) (from_order cell (map cell_of (entries_of db)) has) in
    let next = from_map cell_of other (entries_of db) (from_order other (map cell_of (entries_of db)) also) in
    let e = from.x in
    let d = next.x in
    let good_e = good db is e from.among in
    let good_d = good db is d next.among in
    let one = keys e.tree d.tree e.key d.key good_e.tree good_d.tree good_e.key good_d.key (sym (ap (λ (c : Cell). c.key) from.is) ∙ same ∙ ap (λ (c : Cell). c.key) next.is) in
    let here = from_flat filled_entries e db from.among in
    let there = from_flat filled_entries d db next.among in
    from.is ∙ ap cell_of (one_entry_here db is here.x there.x e d here.among there.among one here.here there.here) ∙ sym next.is
