-- Rows of a table that two databases share: what is looked at of them is the same where the two agree on what is read for it.
use Rattle.std.proofs.Common.{◌≡◌, ℕ, ℤ, List, [], ◌∷◌, ◌++◌, inl, inr, map, Some, true, length, append_assoc, refl, sym, ap, subst, ◌∙◌}
use Rattle.std.specs.Prelude.{◌<ℤ◌}
use Rattle.std.specs.List.{filter}
use Rattle.std.specs.Ordering.{is_eq}
use Rattle.std.specs.Cmp.{Equal-is}
use Rattle.std.proofs.lemmas.List.{append_cancel_right}
use Rattle.std.proofs.lemmas.Bool.{and_parts, false≢true}
use Rattle.hc_range.specs.declared.range.Range.{Range}
use Rattle.hc_range.specs.Ranges.{InRange}
use Rattle.hc_range.proofs.ByteOrder.{below_irrefl, prefix_below}
use Rattle.hc_value.specs.declared.value.Value.{Value}
use Rattle.hc_value.specs.declared.value.Value.TheVariants.{Int}
use Rattle.hc_value.specs.Order.{value_order}
use Rattle.hc_value.specs.Values.{IsValue, AreValues}
use Rattle.hc_record.specs.Laws.{NoEncodingBeginsAnother}
use Rattle.hc_key.specs.Laws.{KeysDiffer, RangesHoldTheirKeys}
use Rattle.hc_key.proofs.Prefix.{TiesAreSame}
use Rattle.hc_base.specs.Lookup.{Among}
use Rattle.hc_schema.specs.declared.entry.Entry.{Entry}
use Rattle.hc_schema.specs.declared.table.Table.{Table}
use Rattle.hc_schema.specs.declared.table.Index.{Index}
use Rattle.hc_schema.specs.declared.row.Row.{Row}
use Rattle.hc_schema.specs.Tables.{IsIndex}
use Rattle.hc_schema.specs.Cells.{tree_range, value_range, row_entry, row_index_entry, indexed_values}
use Rattle.hc_schema.specs.Databases.{Database, Filled, IsFilled, IsDatabase, Agree, entries_of, filled_entries, trees_of}
use Rattle.hc_schema.proofs.TableCells.{all_front}
use Rattle.hc_schema.proofs.SameDatabases.{good}
use Rattle.hc_schema.proofs.Orders.{among_map, among_flat, from_flat, all_among, same_lists}
use Rattle.hc_schema.proofs.EntryKinds.{int_of, row_index_place, row_index_here, row_index_kind}
use Rattle.hc_schema.proofs.SamePlaces.{rows_ordered, never_below, placed}
use Rattle.hc_schema.proofs.OneRecord.{owner, SameNumber, tree_numbers_in, distinct_ordered, same_index, same_row, last_of, last_is}
use Rattle.hc_sql.specs.Stored.{row_at}
use Rattle.hc_sql.specs.Looks.{only, row_key, begins_with, is_indexed}
use Rattle.hc_sql.proofs.Searches.{SearchRow, search_row, passing, passed}
use Rattle.hc_sql.proofs.Shared.{IsAt, across, agree_back, Covers, at_range, row_of_tree_at, row_over, is_filled}

-- the one key is in its range
pub key_in : (key : List ℕ) → InRange (only key) key
key_in key = (below_irrefl key, prefix_below key [] 0)

-- the rowids of the rows that are in an index under some values
abbrev pub rowids_under : Index → List Value → List Row → List ℤ
rowids_under index values rows = map (λ (row : Row). row.rowid) (filter (is_indexed index values) rows)

module _ (keys : KeysDiffer) (encodings : NoEncodingBeginsAnother) (ties : TiesAreSame) (ranges : RangesHoldTheirKeys) (Keys : List ℕ → Type 0) (a b : Database) (is_a : IsDatabase a) (is_b : IsDatabase b) (agree : Agree Keys a b) where
  abbrev Covered : Range → Type 0
  Covered = Covers keys encodings ranges Keys

  module _ (f g : Filled) (in_a : Among f a) (in_b : Among g b) (same : f.table ≡ g.table) where
    -- all rows
    pub same_rows : Covered (tree_range f.table.tree) → f.rows ≡ g.rows
    same_rows covers =
        same_lists (λ (x y : Row). x.rowid <ℤ y.rowid) f.rows g.rows (λ x y. never_below x.rowid y.rowid)
        (rows_ordered f.rows (is_filled keys encodings ranges Keys a is_a f in_a).ascend) (rows_ordered g.rows (is_filled keys encodings ranges Keys b is_b g in_b).ascend)
        (λ row among. row_over keys encodings ranges Keys a b is_a is_b agree f g in_a in_b same row (row_of_tree_at keys encodings ranges Keys a is_a f in_a covers row among) among)
        (λ row among. row_over keys encodings ranges Keys b a is_b is_a (agree_back Keys a b agree) g f in_b in_a (sym same) row
        (row_of_tree_at keys encodings ranges Keys b is_b g in_b (subst (λ (t : Table). Covered (tree_range t.tree)) same covers) row among) among)

    -- the key of a row is that of its rowid
    at_rowid : (t : Table) (rowid : ℤ) (row : Row) → row.rowid ≡ rowid → Covered (only (row_key t rowid)) → IsAt Keys (row_entry t row.rowid row.values)
    at_rowid t rowid row is covers = subst (λ k. Keys (row_key t k)) (sym is) (covers (row_key t rowid) (key_in (row_key t rowid)))

    -- the row of a rowid
    pub same_row_at : (rowid : ℤ) → Covered (only (row_key f.table rowid)) → row_at rowid f.rows ≡ row_at rowid g.rows
    same_row_at rowid covers = by_search (search_row rowid f.rows) (search_row rowid g.rows)
      where
        there : (row : Row) → row.rowid ≡ rowid → Among row f.rows → Among row g.rows
        there row is among = row_over keys encodings ranges Keys a b is_a is_b agree f g in_a in_b same row (at_rowid f.table rowid row is covers) among

        back : (row : Row) → row.rowid ≡ rowid → Among row g.rows → Among row f.rows
        back row is among =
            row_over keys encodings ranges Keys b a is_b is_a (agree_back Keys a b agree) g f in_b in_a (sym same) row
            (at_rowid g.table rowid row is (subst (λ (t : Table). Covered (only (row_key t rowid))) same covers)) among

        by_search : SearchRow rowid f.rows → SearchRow rowid g.rows → row_at rowid f.rows ≡ row_at rowid g.rows
        by_search (inl none) (inl also) = none.0 ∙ sym also.0
        by_search (inl none) (inr found) = absurd (none.1 found.0 (back found.0 found.2 found.1) found.2)
        by_search (inr found) (inl none) = absurd (none.1 found.0 (there found.0 found.2 found.1) found.2)
        by_search (inr found) (inr other) =
            let one : found.0 ≡ other.0 = same_row b is_b g found.0 other.0 in_b (there found.0 found.2 found.1) other.1 (found.2 ∙ sym other.2) in
            found.3 ∙ ap Some one ∙ sym other.3

  -- ---- by an index

  -- values that begin with others
  begins : (values list : List Value) → begins_with list values ≡ true → (rest : List Value) × (list ≡ values ++ rest)
  begins [] list is = (list, refl)
  begins (v ∷ values) [] is = absurd (false≢true is)
  begins (v ∷ values) (w ∷ list) is =
      let parts = and_parts (is_eq (value_order w v)) (begins_with list values) is in
      let first : w ≡ v = (ties w v).0 ((Equal-is (value_order w v)).0 parts.0) in
      let more = begins values list parts.1 in
      (more.0, (λ i. first i ∷ more.1 i))

  -- a rowid under some values in an index of the table is there in the other database too
  pub rowid_over : (f g : Filled) → Among f a → Among g b → f.table ≡ g.table → (index : Index) → Among index f.table.indexes → (values : List Value) → Covered (value_range index.tree values)
      → (k : ℤ) → Among k (rowids_under index values f.rows) → Among k (rowids_under index values g.rows)
  rowid_over f g in_a in_b same index listed values covers k among =
      let found = passing (is_indexed index values) f.rows k among in
      let row = found.0 in
      let e = row_index_entry row.rowid row.values index in
      let is_f = is_filled keys encodings ranges Keys a is_a f in_a in
      let in_entries = among_flat filled_entries e f a in_a (row_index_place f row index found.1 listed) in
      let front = begins values (indexed_values index row.values) found.2 in
      let rest = front.0 ++ Int row.rowid ∷ [] in
      let is_key : e.key ≡ values ++ rest = ap (λ l. l ++ Int row.rowid ∷ []) front.1 ∙ append_assoc values front.0 (Int row.rowid ∷ []) in
      let are : AreValues values = all_front IsValue values rest (subst AreValues is_key (good a is_a e in_entries).key) in
      let small = (all_among (IsIndex (length f.table.columns)) index f.table.indexes is_f.table.form.indexes listed).1 in
      let at = at_range keys encodings ranges Keys a is_a e in_entries index.tree values rest small are refl is_key covers in
      let there : Among e (entries_of b) = across keys encodings Keys a b is_a is_b agree e at in_entries in
      let within = from_flat filled_entries e b there in
      let h = within.x in
      let is_h = all_among IsFilled h b is_b.filled within.among in
      let place = placed f is_f in
      let above = place.index_trees index listed in
      let here = row_index_here h (placed h is_h) e within.here (row_index_kind row.rowid row.values index above.0 above.1 (place.columns index listed)) in
      let tree : index.tree ≡ here.index.tree = ap (λ (d : Entry). d.tree) here.is in
      let listed_g : Among index g.table.indexes = subst (λ (t : Table). Among index t.indexes) same listed in
      let one : g ≡ h =
      owner SameNumber tree_numbers_in b g h index.tree here.index.tree (distinct_ordered (trees_of b) is_b.trees) in_b within.among
      (inr (among_map (λ (x : Index). x.tree) index g.table.indexes listed_g)) (inr (among_map (λ (x : Index). x.tree) here.index h.table.indexes here.listed)) tree (sym tree) in
      let one_index : index ≡ here.index = same_index b is_b g index here.index in_b listed_g (subst (λ (x : Filled). Among here.index x.table.indexes) (sym one) here.listed) tree in
      let same_keys : e.key ≡ indexed_values here.index here.row.values ++ Int here.row.rowid ∷ [] = ap (λ (d : Entry). d.key) here.is in
      let rowid : row.rowid ≡ here.row.rowid =
      ap int_of (sym (last_is (indexed_values index row.values) (Int row.rowid)) ∙ ap last_of same_keys ∙ last_is (indexed_values here.index here.row.values) (Int here.row.rowid)) in
      let same_values : indexed_values index row.values ≡ indexed_values here.index here.row.values =
      append_cancel_right (indexed_values index row.values) (indexed_values here.index here.row.values) (Int row.rowid ∷ [])
      (same_keys ∙ ap (λ n. indexed_values here.index here.row.values ++ Int n ∷ []) (sym rowid)) in
      let values_here : indexed_values index row.values ≡ indexed_values index here.row.values = same_values ∙ ap (λ (x : Index). indexed_values x here.row.values) (sym one_index) in
      let test : is_indexed index values here.row ≡ true = ap (λ l. begins_with l values) (sym values_here) ∙ found.2 in
      subst (λ n. Among n (rowids_under index values g.rows)) (sym rowid ∙ found.3)
      (passed (is_indexed index values) g.rows here.row (subst (λ (x : Filled). Among here.row x.rows) (sym one) here.among) test)
