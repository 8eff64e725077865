-- What is looked at is decided by the ranges that are read for it: the table of a name, and the rows of a table that both
-- databases have.
use Rattle.std.proofs.Common.{◌≡◌, ℕ, ℤ, List, [], ◌∷◌, inl, inr, flat_map, Option, Some, None, refl, sym, ap, subst, ◌∙◌}
use Rattle.std.specs.Prelude.{◌<ℤ◌}
use Rattle.std.specs.List.{AllByRecursion}
use Rattle.std.specs.Option.{option_to_list}
use Rattle.hc_text.specs.Names.{SameName}
use Rattle.hc_range.specs.declared.range.Range.{Range}
use Rattle.hc_value.specs.declared.value.Value.{Value}
use Rattle.hc_value.specs.declared.value.Value.TheVariants.{Text}
use Rattle.hc_record.specs.Laws.{NoEncodingBeginsAnother}
use Rattle.hc_key.specs.Laws.{KeysDiffer, RangesHoldTheirKeys, range_of}
use Rattle.hc_key.proofs.Prefix.{TiesAreSame}
use Rattle.hc_base.specs.Lookup.{Among}
use Rattle.hc_schema.specs.declared.table.Table.{Table}
use Rattle.hc_schema.specs.declared.table.Index.{Index}
use Rattle.hc_schema.specs.Cells.{catalog_range, tree_range, value_range}
use Rattle.hc_schema.specs.Databases.{Database, Filled, IsDatabase, Agree}
use Rattle.hc_schema.proofs.Orders.{same_lists}
use Rattle.hc_schema.proofs.SamePlaces.{rows_ordered, never_below, one_name, one_tree}
use Rattle.hc_sql.specs.Work.{Work, give, next, in_turn}
use Rattle.hc_sql.specs.Stored.{table_of, rows_in, row_at}
use Rattle.hc_sql.specs.Looks.{only, row_key, is_indexed, find_table, find_rows, find_row, find_rowids, find_indexed}
use Rattle.hc_sql.proofs.Decided.{Within, IsDecided, give_decided, look_decided, next_decided, in_turn_decided}
use Rattle.hc_sql.proofs.Searches.{Search, search, rows_found, passing_ordered}
use Rattle.hc_sql.proofs.Shared.{agree_back, Covers, Shown, shown, is_filled}
use Rattle.hc_sql.proofs.SharedRows.{rowids_under, same_rows, same_row_at, rowid_over}

-- nothing is asked of a value
abbrev pub Any : {A : Type 0} → A → Type 0
Any x = Unit {0}

abbrev pub OnFound : {A : Type 0} → (A → Type 0) → Option A → Type 0
OnFound P None = Unit {0}
OnFound P (Some x) = P x

-- a database has the table
pub record Has (db : Database) (t : Table) : Type 0 where
  pub filled : Filled
  pub among : Among filled db
  pub is : filled.table ≡ t

module _ (keys : KeysDiffer) (encodings : NoEncodingBeginsAnother) (ties : TiesAreSame) (ranges : RangesHoldTheirKeys) (Keys : List ℕ → Type 0) (a b : Database) (is_a : IsDatabase a) (is_b : IsDatabase b) (agree : Agree Keys a b) where
  abbrev Covered : Range → Type 0
  Covered = Covers keys encodings ranges Keys

  abbrev pub Decided : {A : Type 0} → (A → Type 0) → Work A → Type 0
  Decided P work = IsDecided Keys a b P work

  covered : (range : Range) → Within Keys a b (range ∷ []) → Covered range
  covered range within key here = within key (inl here)

  -- both databases have the table
  pub record Both (t : Table) : Type 0 where
    pub on_a : Has a t
    pub on_b : Has b t

  -- ---- the table of a name

  module _ (name : List ℕ) (covers : Covered (catalog_range name)) where
    for_name : (other : List ℕ) → SameName other name → Covered (catalog_range other)
    for_name other same = subst (λ l. Covered (range_of 0 (Text l ∷ []))) (sym same) covers

    there : (f : Filled) → Among f a → SameName f.table.name name → Shown keys encodings ranges Keys a b is_a is_b agree f
    there f in_a same = shown keys encodings ranges Keys a b is_a is_b agree f in_a (for_name f.table.name same)

    back : (g : Filled) → Among g b → SameName g.table.name name → Shown keys encodings ranges Keys b a is_b is_a (agree_back Keys a b agree) g
    back g in_b same = shown keys encodings ranges Keys b a is_b is_a (agree_back Keys a b agree) g in_b (for_name g.table.name same)

    called : (f g : Filled) → f.table ≡ g.table → SameName f.table.name name → SameName g.table.name name
    called f g same names = subst (λ (t : Table). SameName t.name name) same names

    same_table : Search a name → Search b name → table_of a name ≡ table_of b name
    same_table (inl none) (inl also) = none.0 ∙ sym also.0
    same_table (inl none) (inr found) =
        let on_a = back found.0 found.1 found.2 in absurd (none.1 on_a.other on_a.among (called found.0 on_a.other on_a.same found.2))
    same_table (inr found) (inl none) =
        let on_b = there found.0 found.1 found.2 in absurd (none.1 on_b.other on_b.among (called found.0 on_b.other on_b.same found.2))
    same_table (inr found) (inr other) =
        let on_b = there found.0 found.1 found.2 in
        let names : SameName on_b.other.table.name other.0.table.name = called found.0 on_b.other on_b.same found.2 ∙ sym other.2 in
        let one : on_b.other ≡ other.0 = one_name b on_b.other other.0 is_b on_b.among other.1 names in
        found.3 ∙ ap Some (on_b.same ∙ ap (λ (f : Filled). f.table) one) ∙ sym other.3

    in_both : Search a name → OnFound Both (table_of a name)
    in_both (inl none) = subst (OnFound Both) (sym none.0) tt
    in_both (inr found) =
        let on_b = there found.0 found.1 found.2 in
        subst (OnFound Both) (sym found.3) (record {
          on_a = record { filled = found.0; among = found.1; is = refl };
          on_b = record { filled = on_b.other; among = on_b.among; is = sym on_b.same };
        })

  pub find_table_decided : (name : List ℕ) → Decided (OnFound Both) (find_table name)
  find_table_decided name =
      look_decided Keys a b (OnFound Both) (catalog_range name) (λ db. table_of db name)
      (λ within. same_table name (covered (catalog_range name) within) (search a name) (search b name))
      (λ within. in_both name (covered (catalog_range name) within) (search a name))

  -- ---- the rows of a table

  module _ (f g : Filled) (in_a : Among f a) (in_b : Among g b) (same : f.table ≡ g.table) where
    rows_of_a : rows_in a f.table.tree ≡ f.rows
    rows_of_a = rows_found a f.table.tree f (λ h among trees. one_tree a h f is_a among in_a trees) in_a refl

    rows_of_b : rows_in b f.table.tree ≡ g.rows
    rows_of_b =
        let trees : g.table.tree ≡ f.table.tree = ap (λ (t : Table). t.tree) (sym same) in
        rows_found b f.table.tree g (λ h among is. one_tree b h g is_b among in_b (is ∙ sym trees)) in_b trees

    rows_decided : Decided Any (find_rows f.table)
    rows_decided =
        look_decided Keys a b Any (tree_range f.table.tree) (λ db. rows_in db f.table.tree)
        (λ within. rows_of_a ∙ same_rows keys encodings ties ranges Keys a b is_a is_b agree f g in_a in_b same (covered (tree_range f.table.tree) within) ∙ sym rows_of_b)
        (λ within. tt)

    row_decided : (rowid : ℤ) → Decided Any (find_row f.table rowid)
    row_decided rowid =
        look_decided Keys a b Any (only (row_key f.table rowid)) (λ db. row_at rowid (rows_in db f.table.tree))
        (λ within. ap (row_at rowid) rows_of_a
        ∙ same_row_at keys encodings ties ranges Keys a b is_a is_b agree f g in_a in_b same rowid (covered (only (row_key f.table rowid)) within)
        ∙ ap (row_at rowid) (sym rows_of_b))
        (λ within. tt)

    same_rowids : (index : Index) → Among index f.table.indexes → (values : List Value) → Covered (value_range index.tree values) → rowids_under index values f.rows ≡ rowids_under index values g.rows
    same_rowids index listed values covers =
        same_lists (λ (m n : ℤ). m <ℤ n) (rowids_under index values f.rows) (rowids_under index values g.rows) never_below
        (passing_ordered (is_indexed index values) f.rows (rows_ordered f.rows (is_filled keys encodings ranges Keys a is_a f in_a).ascend))
        (passing_ordered (is_indexed index values) g.rows (rows_ordered g.rows (is_filled keys encodings ranges Keys b is_b g in_b).ascend))
        (rowid_over keys encodings ties ranges Keys a b is_a is_b agree f g in_a in_b same index listed values covers)
        (rowid_over keys encodings ties ranges Keys b a is_b is_a (agree_back Keys a b agree) g f in_b in_a (sym same) index
        (subst (λ (t : Table). Among index t.indexes) same listed) values covers)

    rowids_decided : (index : Index) → Among index f.table.indexes → (values : List Value) → Decided Any (find_rowids f.table index values)
    rowids_decided index listed values =
        look_decided Keys a b Any (value_range index.tree values) (λ db. rowids_under index values (rows_in db f.table.tree))
        (λ within. ap (rowids_under index values) rows_of_a ∙ same_rowids index listed values (covered (value_range index.tree values) within) ∙ ap (rowids_under index values) (sym rows_of_b))
        (λ within. tt)

    indexed_decided : (index : Index) → Among index f.table.indexes → (values : List Value) → Decided Any (find_indexed f.table index values)
    indexed_decided index listed values =
        next_decided Keys a b Any Any (λ rowids. next (in_turn (find_row f.table) rowids) (λ found. give (flat_map option_to_list found)))
        (λ rowids any. next_decided Keys a b (AllByRecursion Any) Any (λ found. give (flat_map option_to_list found))
        (λ found all. give_decided Keys a b Any (flat_map option_to_list found) tt)
        (in_turn (find_row f.table) rowids) (in_turn_decided Keys a b Any (find_row f.table) rowids (λ rowid among. row_decided rowid)))
        (find_rowids f.table index values) (rowids_decided index listed values)

  -- what is decided of each table that both have is so of this one
  of_both : {A : Type 0} (work : Table → Work A) (t : Table) → Both t → ((f g : Filled) → Among f a → Among g b → f.table ≡ g.table → Decided Any (work f.table)) → Decided Any (work t)
  of_both work t both decided =
      subst (λ x. Decided Any (work x)) both.on_a.is (decided both.on_a.filled both.on_b.filled both.on_a.among both.on_b.among (both.on_a.is ∙ sym both.on_b.is))

  pub find_rows_decided : (t : Table) → Both t → Decided Any (find_rows t)
  find_rows_decided t both = of_both find_rows t both rows_decided

  pub find_row_decided : (t : Table) → Both t → (rowid : ℤ) → Decided Any (find_row t rowid)
  find_row_decided t both rowid = of_both (λ x. find_row x rowid) t both (λ f g in_a in_b same. row_decided f g in_a in_b same rowid)

  pub find_indexed_decided : (t : Table) → Both t → (index : Index) → Among index t.indexes → (values : List Value) → Decided Any (find_indexed t index values)
  find_indexed_decided t both index listed values =
      subst (λ x. Among index x.indexes → Decided Any (find_indexed x index values)) both.on_a.is
      (λ here. indexed_decided both.on_a.filled both.on_b.filled both.on_a.among both.on_b.among (both.on_a.is ∙ sym both.on_b.is) index here values) listed
