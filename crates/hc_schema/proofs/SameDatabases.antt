-- Databases with the same cells are one.
use Rattle.std.proofs.Common.{◌≡◌, ◌<◌, Bool, true, false, List, [], ◌∷◌, ◌⊎◌, inl, inr, map, length, if◌then◌else◌, refl, sym, ap, subst, arith}
use Rattle.std.specs.Prelude.{◌<ℤ◌}
use Rattle.hc_text.specs.Names.{SameName}
use Rattle.hc_range.specs.Order.{is_below}
use Rattle.hc_record.specs.Laws.{NoEncodingBeginsAnother}
use Rattle.hc_key.specs.Laws.{KeysDiffer}
use Rattle.hc_base.specs.Lookup.{Among}
use Rattle.hc_core.specs.declared.cells.Cell.{Cell}
use Rattle.hc_schema.specs.declared.entry.Entry.{Entry}
use Rattle.hc_schema.specs.declared.table.Index.{Index}
use Rattle.hc_schema.specs.Cells.{cell_of, IsShort, column_entries, index_entry, index_name_entry, row_index_entry}
use Rattle.hc_schema.specs.declared.row.Row.{Row}
use Rattle.hc_schema.specs.Databases.{Database, Filled, IsRow, IsFilled, IsDatabase, filled_entries, entries_of, with_cell, by_key, cells_of}
use Rattle.hc_schema.proofs.TableCells.{all_front, all_back}
use Rattle.hc_schema.proofs.Orders.{among_map, from_map, from_flat, all_among, same_lists}
use Rattle.hc_schema.proofs.EntryKinds.{text_of, nat_of, first_of, second_of, fourth_of, Place, of_table, of_column, of_index, of_name, of_row, of_row_index, place_of}
use Rattle.hc_schema.proofs.GoodEntries.{IsGood, one_entry, table_good, column_goods, index_goods, name_goods, row_good, row_index_goods}
use Rattle.hc_schema.proofs.SamePlaces.{by_number, never_both, IsBefore, columns_ordered, rows_ordered, never_below, tree_of, trees_ordered}
use Rattle.hc_schema.proofs.Recovered.{alias_same, columns_same, twin, columns_over, indexes_over, rows_over}

-- ---- the order of cells

by_test : (b : Bool) (x : Cell) (here there : List Cell) → Among x here → Among x there → Among x (if b then there else here)
by_test true x here there left right = right
by_test false x here there left right = left

either_test : (b : Bool) (x : Cell) (here there : List Cell) (P : Type 0) → (Among x here → P) → (Among x there → P) → Among x (if b then there else here) → P
either_test true x here there P left right among = right among
either_test false x here there P left right among = left among

-- a cell that is put in is there, and so are the others
pub put_new : (x : Cell) (cells : List Cell) → Among x (with_cell x cells)
put_new x [] = inl refl
put_new x (y ∷ cells) = by_test (is_below y.key x.key) x (x ∷ y ∷ cells) (y ∷ with_cell x cells) (inl refl) (inr (put_new x cells))

pub put_others : (x y : Cell) (cells : List Cell) → Among x cells → Among x (with_cell y cells)
put_others x y [] among = absurd among
put_others x y (z ∷ cells) (inl same) = by_test (is_below z.key y.key) x (y ∷ z ∷ cells) (z ∷ with_cell y cells) (inr (inl same)) (inl same)
put_others x y (z ∷ cells) (inr among) = by_test (is_below z.key y.key) x (y ∷ z ∷ cells) (z ∷ with_cell y cells) (inr (inr among)) (inr (put_others x y cells among))

pub from_put : (x y : Cell) (cells : List Cell) → Among x (with_cell y cells) → (x ≡ y) ⊎ Among x cells
from_put x y [] (inl same) = inl same
from_put x y [] (inr among) = absurd among
from_put x y (z ∷ cells) among =
    either_test (is_below z.key y.key) x (y ∷ z ∷ cells) (z ∷ with_cell y cells) ((x ≡ y) ⊎ Among x (z ∷ cells)) (λ here. here)
    (λ there. elim there [ inl same ↦ inr (inl same) | inr later ↦ elim (from_put x y cells later) [ inl same ↦ inl same | inr old ↦ inr (inr old) ] ])
    among

-- cells in order are those that were
pub into_order : (x : Cell) (cells : List Cell) → Among x cells → Among x (by_key cells)
into_order x [] among = absurd among
into_order x (y ∷ cells) (inl same) = subst (λ z. Among z (with_cell y (by_key cells))) (sym same) (put_new y (by_key cells))
into_order x (y ∷ cells) (inr among) = put_others x y (by_key cells) (into_order x cells among)

pub from_order : (x : Cell) (cells : List Cell) → Among x (by_key cells) → Among x cells
from_order x [] among = among
from_order x (y ∷ cells) among = elim (from_put x y (by_key cells) among) [ inl same ↦ inl same | inr old ↦ inr (from_order x cells old) ]

-- ---- all entries of a database are good

good_at : (f : Filled) → IsFilled f → (e : Entry) → Place f e → IsGood e
good_at f is e (of_table same) = subst IsGood (sym same) (table_good f.table is.table)
good_at f is e (of_column among) =
    all_among IsGood e (column_entries f.table.name 1 f.table.columns)
    (column_goods f.table.name 1 f.table.columns is.table.form.name (omega (arith, is.table.form.count.1)) is.table.form.columns (all_front IsShort (column_entries f.table.name 1 f.table.columns) (map (index_entry f.table.name) f.table.indexes) is.table.short.1))
    among
good_at f is e (of_index index among same) =
    all_among IsGood e (map (index_entry f.table.name) f.table.indexes)
    (index_goods (length f.table.columns) f.table.name f.table.indexes is.table.form.name is.table.form.count.1 is.table.form.indexes (all_back IsShort (column_entries f.table.name 1 f.table.columns) (map (index_entry f.table.name) f.table.indexes) is.table.short.1))
    (subst (λ d. Among d (map (index_entry f.table.name) f.table.indexes)) (sym same) (among_map (index_entry f.table.name) index f.table.indexes among))
good_at f is e (of_name index among same) =
    all_among IsGood e (map (index_name_entry f.table.name) f.table.indexes)
    (name_goods (length f.table.columns) f.table.name f.table.indexes is.table.form.name is.table.form.indexes is.table.short_names)
    (subst (λ d. Among d (map (index_name_entry f.table.name) f.table.indexes)) (sym same) (among_map (index_name_entry f.table.name) index f.table.indexes among))
good_at f is e (of_row row among same) =
    let is_row = all_among (IsRow f.table) row f.rows is.rows among in subst IsGood (sym same) (row_good f.table row is.table.form.tree.1 is_row)
good_at f is e (of_row_index row index among there same) =
    let is_row = all_among (IsRow f.table) row f.rows is.rows among in
    all_among IsGood e (map (row_index_entry row.rowid row.values) f.table.indexes)
    (row_index_goods (length f.table.columns) row f.table.indexes is_row.rowid is_row.values is.table.form.indexes is_row.short.1)
    (subst (λ d. Among d (map (row_index_entry row.rowid row.values) f.table.indexes)) (sym same) (among_map (row_index_entry row.rowid row.values) index f.table.indexes there))

pub good : (db : Database) → IsDatabase db → (e : Entry) → Among e (entries_of db) → IsGood e
good db is e among =
    let within = from_flat filled_entries e db among in
    good_at within.x (all_among IsFilled within.x db is.filled within.among) e (place_of within.x e within.here)

-- a database with the same cells has the same entries
pub covers : KeysDiffer → NoEncodingBeginsAnother → (a b : Database) → IsDatabase a → IsDatabase b → cells_of a ≡ cells_of b → (e : Entry) → Among e (entries_of a) → Among e (entries_of b)
covers keys encodings a b is_a is_b same e among =
    let here : Among (cell_of e) (cells_of a) = into_order (cell_of e) (map cell_of (entries_of a)) (among_map cell_of e (entries_of a) among) in
    let there : Among (cell_of e) (cells_of b) = subst (λ l. Among (cell_of e) l) same here in
    let from = from_map cell_of (cell_of e) (entries_of b) (from_order (cell_of e) (map cell_of (entries_of b)) there) in
    let one : e ≡ from.x = one_entry keys encodings e from.x (good a is_a e among) (good b is_b from.x from.among) from.is in
    subst (λ d. Among d (entries_of b)) (sym one) from.among

-- ---- tables

-- each table of the one is a table of the other
module _ (a b : Database) (is_a : IsDatabase a) (is_b : IsDatabase b) (into : (e : Entry) → Among e (entries_of a) → Among e (entries_of b)) (back : (e : Entry) → Among e (entries_of b) → Among e (entries_of a)) where
  -- of every kind
  abbrev Any : Entry → Type 0
  Any e = Unit {0}

  abbrev forth : (e : Entry) → Any e → Among e (entries_of a) → Among e (entries_of b)
  forth e any among = into e among

  abbrev home : (e : Entry) → Any e → Among e (entries_of b) → Among e (entries_of a)
  home e any among = back e among

  filled_over : (f : Filled) → Among f a → Among f b
  filled_over f in_a =
      let twin_is = twin a b is_a is_b Any forth f tt in_a in
      let g = twin_is.other in
      let values = ap (λ (e : Entry). e.values) twin_is.same in
      let is_f = all_among IsFilled f a is_a.filled in_a in
      let is_g = all_among IsFilled g b is_b.filled twin_is.among in
      let name : f.table.name ≡ g.table.name = ap (λ l. text_of (first_of l)) values in
      let tree : f.table.tree ≡ g.table.tree = ap (λ l. nat_of (second_of l)) values in
      let alias : f.table.alias ≡ g.table.alias = alias_same f.table.alias g.table.alias (ap (λ l. nat_of (fourth_of l)) values) in
      let names : SameName f.table.name g.table.name = ap (λ (e : Entry). text_of (first_of e.key)) twin_is.same in
      let columns : f.table.columns ≡ g.table.columns =
      columns_same f.table.name g.table.name 1 f.table.columns g.table.columns
      (same_lists IsBefore (column_entries f.table.name 1 f.table.columns) (column_entries g.table.name 1 g.table.columns) (λ x y less more. omega (arith, less, more))
      (columns_ordered f.table.name 1 f.table.columns).1 (columns_ordered g.table.name 1 g.table.columns).1
      (λ e. columns_over a b is_a is_b Any forth f g in_a twin_is.among names tree alias e tt)
      (λ e. columns_over b a is_b is_a Any home g f twin_is.among in_a (sym names) (sym tree) (sym alias) e tt)) in
      let indexes : f.table.indexes ≡ g.table.indexes =
      same_lists (λ (x y : Index). x.tree < y.tree) f.table.indexes g.table.indexes (never_both (λ (x : Index). x.tree))
      (by_number (λ (x : Index). x.tree) f.table.tree f.table.indexes is_f.table.form.trees).1 (by_number (λ (x : Index). x.tree) g.table.tree g.table.indexes is_g.table.form.trees).1
      (λ index. indexes_over a b is_a is_b Any forth f g in_a twin_is.among names tree alias is_f index tt)
      (λ index. indexes_over b a is_b is_a Any home g f twin_is.among in_a (sym names) (sym tree) (sym alias) is_g index tt) in
      let rows : f.rows ≡ g.rows =
      same_lists (λ (x y : Row). x.rowid <ℤ y.rowid) f.rows g.rows (λ x y. never_below x.rowid y.rowid) (rows_ordered f.rows is_f.ascend) (rows_ordered g.rows is_g.ascend)
      (λ row. rows_over a b is_a is_b Any forth f g in_a twin_is.among names tree alias is_f row tt)
      (λ row. rows_over b a is_b is_a Any home g f twin_is.among in_a (sym names) (sym tree) (sym alias) is_g row tt) in
      let one : f ≡ g = (λ i. record { table = record { name = name i; tree = tree i; columns = columns i; alias = alias i; indexes = indexes i }; rows = rows i }) in
      subst (λ h. Among h b) (sym one) twin_is.among

pub same_cells_same : KeysDiffer → NoEncodingBeginsAnother → (a b : Database) → IsDatabase a → IsDatabase b → cells_of a ≡ cells_of b → a ≡ b
same_cells_same keys encodings a b is_a is_b same =
    let into = covers keys encodings a b is_a is_b same in
    let back = covers keys encodings b a is_b is_a (sym same) in
    same_lists (λ x y. tree_of x < tree_of y) a b (never_both tree_of) (trees_ordered a is_a) (trees_ordered b is_b)
    (filled_over a b is_a is_b into back) (filled_over b a is_b is_a back into)
