-- The cells of a catalog tell exactly the numbers of its trees.
use Rattle.std.proofs.Common.{◌≡◌, ℕ, zero, suc, ◌+◌, ◌-◌, ◌<◌, ◌≤◌, ◌^◌, List, [], ◌∷◌, ◌++◌, inl, inr, map, length, get_or, Option, Some, None, refl, sym, ap, subst, arith}
use Rattle.std.specs.Prelude.{SomeIff, MatchOption}
use Rattle.std.specs.List.{AllByRecursion}
use Rattle.hc_key.specs.Keys.{key_bytes}
use Rattle.hc_base.specs.Lookup.{Among}
use Rattle.hc_core.specs.declared.cells.Cell.{Cell}
use Rattle.hc_schema.specs.declared.entry.Entry.{Entry}
use Rattle.hc_schema.specs.declared.table.Table.{Table}
use Rattle.hc_schema.specs.declared.table.Column.{Column}
use Rattle.hc_schema.specs.declared.table.Index.{Index}
use Rattle.hc_schema.specs.Tables.{IsIndex}
use Rattle.hc_schema.specs.Cells.{IsTable, cell_of, number, key_name, table_entry, column_entries, index_entry, index_name_entry, table_entries, name_entries}
use Rattle.hc_schema.specs.Trees.{IsCatalogOf, catalog_entries, tree_numbers, greatest, IsTelling}
use Rattle.hc_schema.proofs.TableCells.{table_are}
use Rattle.hc_schema.proofs.Orders.{among_back, among_either, among_map, among_flat, from_map, Within, from_flat, all_among}
use Rattle.hc_schema.proofs.GoodEntries.{IsGood, name_goods}
use Rattle.hc_schema.proofs.SamePlaces.{by_number}

-- ---- the greatest

pub at_most_greatest : (n : ℕ) (ns : List ℕ) → Among n ns → n ≤ greatest ns
at_most_greatest n [] among = absurd among
at_most_greatest n (m ∷ ns) (inl same) = omega (arith, same)
at_most_greatest n (m ∷ ns) (inr among) = omega (arith, at_most_greatest n ns among)

pub greatest_at_most : (ns : List ℕ) (most : ℕ) → ((n : ℕ) → Among n ns → n ≤ most) → greatest ns ≤ most
greatest_at_most [] most each = omega arith
greatest_at_most (n ∷ ns) most each = omega (arith, each n (inl refl), greatest_at_most ns most (λ m among. each m (inr among)))

-- ---- what each entry tells

abbrev pub index_tree : Index → ℕ
index_tree index = index.tree

abbrev pub trees_in : Table → List ℕ
trees_in t = t.tree ∷ map index_tree t.indexes

table_telling : (t : Table) → IsTable t → IsTelling (table_entry t) t.tree
table_telling t is = record {
  front = key_name t.name ∷ [];
  last = 0;
  fits = omega arith;
  key = refl;
  told = inr (refl, record { are = table_are t is; short = is.short.0; fits = is.form.tree.1; tells = inl refl });
}

name_telling : (t : Table) (index : Index) → IsTable t → Among index t.indexes → IsTelling (index_name_entry t.name index) index.tree
name_telling t index is among =
    let good = all_among IsGood (index_name_entry t.name index) (name_entries t) (name_goods (length t.columns) t.name t.indexes is.form.name is.form.indexes is.short_names) (among_map (index_name_entry t.name) index t.indexes among) in
    record {
      front = key_name index.name ∷ [];
      last = 0;
      fits = omega arith;
      key = refl;
      told = inr (refl, record { are = good.values; short = good.short; fits = (all_among (λ (i : Index). i.tree < 2 ^ 32) index t.indexes (tree_fits t.indexes is.form.indexes) among); tells = inr (refl, refl) });
    }
  where
    tree_fits : (indexes : List Index) → AllByRecursion (IsIndex (length t.columns)) indexes → AllByRecursion (λ (i : Index). i.tree < 2 ^ 32) indexes
    tree_fits [] all = tt
    tree_fits (i ∷ indexes) all = (all.0.1, tree_fits indexes all.1)

-- a column's number is above 0 and small
column_telling : (name : List ℕ) (k : ℕ) (columns : List Column) (e : Entry) → 1 ≤ k → k + length columns ≤ 256 → Among e (column_entries name k columns) → IsTelling e 0
column_telling name k [] e above few among = absurd among
column_telling name k (column ∷ columns) e above few (inl same) = record {
  front = key_name name ∷ number 0 ∷ [];
  last = k;
  fits = omega (arith, few);
  key = ap (λ (d : Entry). key_bytes d.tree d.key) same;
  told = inl ((λ none. omega (arith, above, none)), refl);
}
column_telling name k (column ∷ columns) e above few (inr among) = column_telling name (k + 1) columns e (omega arith) (omega (arith, few)) among

index_telling : (t : Table) (index : Index) → IsTable t → Among index t.indexes → index.tree < 2 ^ 32 → IsTelling (index_entry t.name index) 0
index_telling t index is among fits = record {
  front = key_name t.name ∷ [];
  last = index.tree;
  fits = omega (arith, fits);
  key = refl;
  told = inl ((λ none. omega (arith, none, all_among (λ (i : Index). t.tree < i.tree) index t.indexes (by_number index_tree t.tree t.indexes is.form.trees).0 among)), refl);
}

pub record Telling (e : Entry) (tables : List Table) : Type 0 where
  pub n : ℕ
  pub is : IsTelling e n
  pub most : n ≤ greatest (tree_numbers tables)

telling_of : (t : Table) (tables : List Table) (e : Entry) → IsTable t → Among t tables → Among e (table_entries t ++ name_entries t) → Telling e tables
telling_of t tables e is among here =
    elim (among_either e (table_entries t) (name_entries t) here) [
      | inl (inl same) ↦ record { n = t.tree; is = subst (λ d. IsTelling d t.tree) (sym same) (table_telling t is); most = at_most_greatest t.tree (tree_numbers tables) (among_flat trees_in t.tree t tables among (inl refl)) }
      | inl (inr rest) ↦ elim (among_either e (column_entries t.name 1 t.columns) (map (index_entry t.name) t.indexes) rest) [
        | inl column ↦ record { n = 0; is = column_telling t.name 1 t.columns e (omega arith) (omega (arith, is.form.count.1)) column; most = omega arith }
        | inr index ↦
            let from = from_map (index_entry t.name) e t.indexes index in
            let fits = (all_among (IsIndex (length t.columns)) from.x t.indexes is.form.indexes from.among).1 in
            record { n = 0; is = subst (λ d. IsTelling d 0) (sym from.is) (index_telling t from.x is from.among fits); most = omega arith }
      ]
      | inr name ↦
          let from = from_map (index_name_entry t.name) e t.indexes name in
          record {
            n = from.x.tree;
            is = subst (λ d. IsTelling d from.x.tree) (sym from.is) (name_telling t from.x is from.among);
            most = at_most_greatest from.x.tree (tree_numbers tables) (among_flat trees_in from.x.tree t tables among (inr (among_map index_tree from.x t.indexes from.among)));
          }
    ]

pub telling : (tables : List Table) (cells : List Cell) (cell : Cell) → IsCatalogOf tables cells → Among cell cells → (e : Entry) × (cell ≡ cell_of e) × Telling e tables
telling tables cells cell is among =
    let from = from_map cell_of cell (catalog_entries tables) ((is.cells cell).0 among) in
    let within = from_flat (λ (t : Table). table_entries t ++ name_entries t) from.x tables from.among in
    (from.x, from.is, telling_of within.x tables from.x (all_among IsTable within.x tables is.tables within.among) within.among within.here)

-- ---- each tree is told

pub record Told (n : ℕ) (cells : List Cell) : Type 0 where
  pub e : Entry
  pub is : IsTelling e n
  pub among : Among (cell_of e) cells

pub told : (tables : List Table) (cells : List Cell) (n : ℕ) → IsCatalogOf tables cells → Among n (tree_numbers tables) → Told n cells
told tables cells n is among = by_place within.here
  where
    within : Within trees_in n tables
    within = from_flat trees_in n tables among

    is_table : IsTable within.x
    is_table = all_among IsTable within.x tables is.tables within.among

    there : (e : Entry) → Among e (table_entries within.x ++ name_entries within.x) → Among (cell_of e) cells
    there e here = (is.cells (cell_of e)).1 (among_map cell_of e (catalog_entries tables) (among_flat (λ (t : Table). table_entries t ++ name_entries t) e within.x tables within.among here))

    by_place : Among n (trees_in within.x) → Told n cells
    by_place (inl same) = record {
      e = table_entry within.x;
      is = subst (IsTelling (table_entry within.x)) (sym same) (table_telling within.x is_table);
      among = there (table_entry within.x) (inl refl);
    }
    by_place (inr index) =
        let from = from_map index_tree n within.x.indexes index in
        let e = index_name_entry within.x.name from.x in
        record {
          e = e;
          is = subst (IsTelling e) (sym from.is) (name_telling within.x from.x is_table from.among);
          among = there e (among_back e (table_entries within.x) (name_entries within.x) (among_map (index_name_entry within.x.name) from.x within.x.indexes from.among));
        }

-- ---- cells one after another

pub among_item : {A : Type 0} (xs : List A) (i : ℕ) (x : A) → x ≡ get_or xs i x → i < length xs → Among x xs
among_item [] i x is lt = absurd (omega (arith, lt))
among_item (y ∷ xs) zero x is lt = inl is
among_item (y ∷ xs) (suc i) x is lt = inr (among_item xs i x is (omega (arith, lt)))

-- the number after the greatest
pub next_is : (next : Option ℕ) (last most : ℕ) → most ≡ last → last < 2 ^ 32 → SomeIff next (last + 1 < 2 ^ 32) (last + 1) → MatchOption next (most ≡ 2 ^ 32 - 1) (λ n. n ≡ most + 1)
next_is None last most same fits is = grind (arith, is, same, fits)
next_is (Some n) last most same fits is = grind (arith, is, same, fits)
