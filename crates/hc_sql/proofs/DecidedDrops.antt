-- DROP TABLE is decided by what it reads.
use Rattle.std.proofs.Common.{◌≡◌, ℕ, List, [], ◌∷◌, ◌++◌, inl, inr, Option, Some, None, Bool, true, false, not, nat_eq, if◌then◌else◌, refl, sym, ap, subst, ◌∙◌, arith}
use Rattle.std.specs.List.{AllByRecursion}
use Rattle.std.specs.Str.{str_to_ascii_lowercase}
use Rattle.std.proofs.lemmas.Bool.{false≢true}
use Rattle.std.proofs.lemmas.Bool.Decides.{Decides-eqb}
use Rattle.hc_text.specs.Names.{SameName}
use Rattle.hc_ast.specs.declared.statement.Stmt.TheVariants as stmt
use Rattle.hc_record.specs.Laws.{NoEncodingBeginsAnother}
use Rattle.hc_key.specs.Laws.{KeysDiffer, RangesHoldTheirKeys}
use Rattle.hc_key.proofs.Prefix.{TiesAreSame}
use Rattle.hc_base.specs.Lookup.{Among}
use Rattle.hc_transcript.specs.declared.refusal.Refusal.TheVariants as refusal
use Rattle.hc_schema.specs.declared.entry.Entry.{Entry}
use Rattle.hc_schema.specs.declared.table.Table.{Table}
use Rattle.hc_schema.specs.declared.table.Index.{Index}
use Rattle.hc_schema.specs.Binding.Names.{same_name}
use Rattle.hc_schema.specs.Databases.{Database, Filled, IsFilled, IsDatabase, Agree, filled_entries, entries_of, names_of, trees_of}
use Rattle.hc_schema.proofs.Orders.{among_map, from_flat, all_among}
use Rattle.hc_schema.proofs.EntryKinds.{text_of, first_of, Place, of_table, of_column, of_index, of_name, of_row, of_row_index, place_of, kind_at, kind_is, IsPlaced}
use Rattle.hc_schema.proofs.SamePlaces.{names_in, one_name, one_tree, placed}
use Rattle.hc_schema.proofs.OneRecord.{owner, SameNumber, tree_numbers_in, distinct_ordered, differ_ordered}
use Rattle.hc_sql.specs.Work.{give, change}
use Rattle.hc_sql.specs.Stored.{without_table}
use Rattle.hc_sql.specs.Looks.{read_catalog}
use Rattle.hc_sql.specs.Results.{done}
use Rattle.hc_sql.specs.Tests.{keys_of}
use Rattle.hc_sql.specs.Catalog.{table_named, catalog_entries, ranges_of, drop_that_table, or_nothing, drop_table}
use Rattle.hc_sql.specs.ChangeLaws.{IsDecidedByItsReads}
use Rattle.hc_sql.proofs.DecidedLooks.{OnFound, Has}
use Rattle.hc_sql.proofs.DecidedTables.{catalog_goes}
use Rattle.hc_sql.proofs.KeptDrops.{without, stays_or}
use Rattle.hc_sql.proofs.Shared.{IsAt, across, agree_back, column_at}
use Rattle.hc_sql.proofs.DecidedChanges.{agree_from, Inside, Same, Goes, next_goes, Twins, InBoth, WithTables, Agrees, decided_by}

-- ---- an entry is of one table

module _ (db : Database) (is : IsDatabase db) (h f g : Filled) (in_h : Among h db) (in_f : Among f db) (same : g.table ≡ f.table) (of_g : IsPlaced g) (e : Entry) where
  of_h : IsPlaced h
  of_h = placed h (all_among IsFilled h db is.filled in_h)

  -- the tables whose names are the same are one
  by_name : SameName h.table.name g.table.name → h ≡ f
  by_name names = one_name db h f is in_h in_f (names ∙ ap (λ (t : Table). str_to_ascii_lowercase t.name) same)

  by_keys : {x y : Entry} → e ≡ x → e ≡ y → text_of (first_of x.key) ≡ text_of (first_of y.key)
  by_keys p q = ap (λ (d : Entry). text_of (first_of d.key)) (sym p ∙ q)

  by_index_name : (i j : Index) → Among i h.table.indexes → Among j g.table.indexes → SameName i.name j.name → h ≡ f
  by_index_name i j in_i in_j names =
      owner SameName names_in db h f i.name j.name (differ_ordered (names_of db) is.names) in_h in_f (inr (among_map (λ (x : Index). x.name) i h.table.indexes in_i))
      (inr (among_map (λ (x : Index). x.name) j f.table.indexes (subst (λ (t : Table). Among j t.indexes) same in_j))) names (sym names)

  by_index_tree : (i j : Index) → Among i h.table.indexes → Among j g.table.indexes → i.tree ≡ j.tree → h ≡ f
  by_index_tree i j in_i in_j trees =
      owner SameNumber tree_numbers_in db h f i.tree j.tree (distinct_ordered (trees_of db) is.trees) in_h in_f (inr (among_map (λ (x : Index). x.tree) i h.table.indexes in_i))
      (inr (among_map (λ (x : Index). x.tree) j f.table.indexes (subst (λ (t : Table). Among j t.indexes) same in_j))) trees (sym trees)

  pub one_table : Place h e → Place g e → h ≡ f
  unfolding kind_at
  one_table (of_table p) (of_table q) = by_name (by_keys p q)
  one_table (of_column p) (of_column q) =
      by_name (ap (λ k. text_of (first_of k)) (sym (column_at h.table.name 1 h.table.columns e p).key ∙ (column_at g.table.name 1 g.table.columns e q).key))
  one_table (of_index i p is_i) (of_index j q is_j) = by_name (by_keys is_i is_j)
  one_table (of_name i p is_i) (of_name j q is_j) = by_index_name i j p q (by_keys is_i is_j)
  one_table (of_row r p is_r) (of_row s q is_s) = one_tree db h f is in_h in_f (ap (λ (d : Entry). d.tree) (sym is_r ∙ is_s) ∙ ap (λ (t : Table). t.tree) same)
  one_table (of_row_index r i p in_i is_r) (of_row_index s j q in_j is_s) = by_index_tree i j in_i in_j (ap (λ (d : Entry). d.tree) (sym is_r ∙ is_s))
  one_table here there = absurd (omega (arith, kind_is h of_h e here, kind_is g of_g e there))

-- ---- the tables that stay

-- a table that stays has another tree
stays : (tree : ℕ) (db : Database) (h : Filled) → Among h (without_table tree db) → Among h db × (h.table.tree ≡ tree → ⊥)
stays tree [] h among = absurd among
stays tree (f ∷ db) h among = by_test (nat_eq f.table.tree tree) refl (stays tree db h) among
  where
    by_test : (here : Bool) → nat_eq f.table.tree tree ≡ here → (Among h (without_table tree db) → Among h db × (h.table.tree ≡ tree → ⊥))
        → Among h (if not here then f ∷ without_table tree db else without_table tree db) → Among h (f ∷ db) × (h.table.tree ≡ tree → ⊥)
    by_test true is rest later = let old = rest later in (inr old.0, old.1)
    by_test false is rest (inl same) = (inl same, λ trees. false≢true (sym is ∙ (Decides-eqb f.table.tree tree).1 (ap (λ (x : Filled). x.table.tree) (sym same) ∙ trees)))
    by_test false is rest (inr later) = let old = rest later in (inr old.0, old.1)

-- a table that is found by its name is one of the tables
pub named_on : (P : Table → Type 0) (tables : List Table) (name : List ℕ) → AllByRecursion P tables → OnFound P (table_named tables name)
named_on P [] name all = tt
named_on P (t ∷ tables) name all = by_test (same_name t.name name) (named_on P tables name all.1)
  where
    by_test : (here : Bool) → OnFound P (table_named tables name) → OnFound P (if here then Some t else table_named tables name)
    by_test true rest = all.0
    by_test false rest = rest

module _ (keys : KeysDiffer) (encodings : NoEncodingBeginsAnother) (ties : TiesAreSame) (ranges : RangesHoldTheirKeys) (Keys : List ℕ → Type 0) where
  module _ (t : Table) where
    -- an entry that stays in the one stays in the other
    over : (a b : Database) → IsDatabase a → IsDatabase b → Agree Keys a b → Has a t → Has b t → (e : Entry) → IsAt Keys e → Among e (entries_of (without_table t.tree a)) → Among e (entries_of (without_table t.tree b))
    over a b is_a is_b agree has_a has_b e at among =
        let within = from_flat filled_entries e (without_table t.tree a) among in
        let h = within.x in
        let old = stays t.tree a h within.among in
        let f = has_a.filled in
        elim (stays_or t.tree b e (across keys encodings Keys a b is_a is_b agree e at (without t.tree a e among))) [
          | inl found ↦
              let g = found.0 in
              let one : g ≡ has_b.filled = one_tree b g has_b.filled is_b found.1 has_b.among (found.2 ∙ sym (ap (λ (x : Table). x.tree) has_b.is)) in
              let same : g.table ≡ f.table = ap (λ (x : Filled). x.table) one ∙ has_b.is ∙ sym has_a.is in
              let mine : h ≡ f = one_table a is_a h f g old.0 has_a.among same (placed g (all_among IsFilled g b is_b.filled found.1)) e (place_of h e within.here) (place_of g e found.3) in
              absurd (old.1 (ap (λ (x : Filled). x.table.tree) mine ∙ ap (λ (x : Table). x.tree) has_a.is))
          | inr there ↦ there
        ]

    drop_goes : Goes Keys (λ a b. Twins Keys a b × InBoth Keys a b t) (Agrees Keys) (drop_that_table t)
    drop_goes =
        next_goes Keys (Agrees Keys) (Agrees Keys) (λ dropped. give (done 0)) (λ dropped a b agree inside. record { result = refl; reads = refl; left = agree })
        (λ a b. Twins Keys a b × InBoth Keys a b t) (change (ranges_of t ++ keys_of (catalog_entries t)) (without_table t.tree))
        (λ a b inv inside. record {
          result = refl;
          reads = refl;
          left = agree_from Keys (without_table t.tree a) (without_table t.tree b) (over a b inv.0.is_a inv.0.is_b inv.0.agree inv.1.0 inv.1.1)
              (over b a inv.0.is_b inv.0.is_a (agree_back Keys a b inv.0.agree) inv.1.1 inv.1.0);
        })

  drop_table_goes : (maybe : Bool) (name : List ℕ) → Goes Keys (Twins Keys) (Agrees Keys) (drop_table maybe name)
  drop_table_goes maybe name =
      next_goes Keys (WithTables Keys) (Agrees Keys) (λ tables. or_nothing maybe (refusal.NoTable name) drop_that_table (table_named tables name))
      (λ tables a b has. by_found (table_named tables name) maybe a b has.0 (named_on (InBoth Keys a b) tables name has.1)) (Twins Keys) read_catalog (catalog_goes keys encodings ties ranges Keys)
    where
      by_found : (found : Option Table) (lenient : Bool) (a b : Database) → Twins Keys a b → OnFound (InBoth Keys a b) found → Inside Keys (or_nothing lenient (refusal.NoTable name) drop_that_table found a).reads
          → Same Keys (Agrees Keys) (or_nothing lenient (refusal.NoTable name) drop_that_table found a) (or_nothing lenient (refusal.NoTable name) drop_that_table found b)
      by_found None true a b twins has inside = record { result = refl; reads = refl; left = twins.agree }
      by_found None false a b twins has inside = record { result = refl; reads = refl; left = tt }
      by_found (Some t) lenient a b twins has inside = drop_goes t a b (twins, has) inside

pub drop_table_decided : KeysDiffer → NoEncodingBeginsAnother → TiesAreSame → RangesHoldTheirKeys → (maybe : Bool) (name : List ℕ) → IsDecidedByItsReads (stmt.DropTable maybe name)
drop_table_decided keys encodings ties ranges maybe name = decided_by (stmt.DropTable maybe name) (λ Keys. drop_table_goes keys encodings ties ranges Keys maybe name)
