-- DROP INDEX is decided by what it reads.
use Rattle.std.proofs.Common.{◌≡◌, ℕ, ◌<◌, List, [], ◌∷◌, ◌⊎◌, inl, inr, Option, Some, None, Bool, true, false, not, nat_eq, if◌then◌else◌, refl, sym, ap, subst, ◌∙◌, arith}
use Rattle.std.specs.List.{AllByRecursion, filter}
use Rattle.std.proofs.lemmas.Bool.{false≢true}
use Rattle.std.proofs.lemmas.Bool.Decides.{Decides-eqb}
use Rattle.hc_ast.specs.declared.statement.Stmt.TheVariants as stmt
use Rattle.hc_record.specs.Laws.{NoEncodingBeginsAnother}
use Rattle.hc_key.specs.Laws.{KeysDiffer, RangesHoldTheirKeys}
use Rattle.hc_key.proofs.Prefix.{TiesAreSame}
use Rattle.hc_base.specs.Lookup.{Among}
use Rattle.hc_transcript.specs.declared.refusal.Refusal.TheVariants as refusal
use Rattle.hc_schema.specs.declared.entry.Entry.{Entry}
use Rattle.hc_schema.specs.declared.table.Table.{Table}
use Rattle.hc_schema.specs.declared.table.Index.{Index}
use Rattle.hc_schema.specs.Tables.{is_rule}
use Rattle.hc_schema.specs.Databases.{Database, Filled, IsFilled, IsDatabase, Agree, filled_entries, entries_of, trees_of}
use Rattle.hc_schema.proofs.Orders.{Ordered, among_map, from_flat, all_among}
use Rattle.hc_schema.proofs.EntryKinds.{nat_of, second_of, third_of, Place, of_index, of_name, of_row_index, place_of, kind_at, kind_is, IsPlaced}
use Rattle.hc_schema.proofs.SamePlaces.{tree_of, trees_ordered, one_tree, placed}
use Rattle.hc_schema.proofs.OneRecord.{owner, SameNumber, tree_numbers_in, distinct_ordered}
use Rattle.hc_sql.specs.Work.{give, next, refuse_if}
use Rattle.hc_sql.specs.Stored.{Owned, or_owned, index_called, index_of, change_indexes, without_index}
use Rattle.hc_sql.specs.Looks.{read_catalog}
use Rattle.hc_sql.specs.Results.{done}
use Rattle.hc_sql.specs.Catalog.{clear_index, or_nothing, drop_that_index, drop_index}
use Rattle.hc_sql.specs.ChangeLaws.{IsDecidedByItsReads}
use Rattle.hc_sql.proofs.DecidedLooks.{OnFound, Has}
use Rattle.hc_sql.proofs.DecidedTables.{catalog_goes}
use Rattle.hc_sql.proofs.DecidedIndexes.{changed, indexes_back, indexes_over, filled_split}
use Rattle.hc_sql.proofs.KeptIndexes.{OfIndex, passes, passed, called_in}
use Rattle.hc_sql.proofs.Shared.{IsAt, across, agree_back}
use Rattle.hc_sql.proofs.DecidedChanges.{agree_from, Inside, Same, Goes, next_goes, refuse_if_goes, Twins, InBoth, WithTables, Agrees, decided_by}

-- ---- an entry of an index tells the index's tree

module _ (h g : Filled) (of_h : IsPlaced h) (of_g : IsPlaced g) (e : Entry) (i : Index) (listed : Among i g.table.indexes) where
  abbrev Found : Type 0
  Found = (j : Index) × Among j h.table.indexes × (j.tree ≡ i.tree)

  pub index_tree : OfIndex g.table.name g.rows i e → Place h e → Found
  unfolding kind_at
  index_tree (inl is) (of_index j p same) = (j, p, ap (λ (d : Entry). nat_of (second_of d.key)) (sym same ∙ is))
  index_tree (inr (inl is)) (of_name j p same) = (j, p, ap (λ (d : Entry). nat_of (third_of d.values)) (sym same ∙ is))
  index_tree (inr (inr row)) (of_row_index r j q p same) = (j, p, ap (λ (d : Entry). d.tree) (sym same ∙ row.2))
  index_tree (inl is) here = absurd (omega (arith, kind_is h of_h e here, kind_is g of_g e (of_index i listed is)))
  index_tree (inr (inl is)) here = absurd (omega (arith, kind_is h of_h e here, kind_is g of_g e (of_name i listed is)))
  index_tree (inr (inr row)) here = absurd (omega (arith, kind_is h of_h e here, kind_is g of_g e (of_row_index row.0 i row.1 listed row.2)))

-- ---- the tables of a database in which one has other indexes

-- what passes a test is one of which the test is true
is_passed : {A : Type 0} (test : A → Bool) (xs : List A) (x : A) → Among x (filter test xs) → test x ≡ true
is_passed test [] x among = absurd among
is_passed {A} test (y ∷ xs) x among = by_test (test y) refl (is_passed test xs x) among
  where
    by_test : (here : Bool) → test y ≡ here → (Among x (filter test xs) → test x ≡ true) → Among x (if here then y ∷ filter test xs else filter test xs) → test x ≡ true
    by_test true is rest (inl same) = subst (λ z. test z ≡ true) (sym same) is
    by_test true is rest (inr later) = rest later
    by_test false is rest later = rest later

module _ (tree : ℕ) (into : List Index → List Index) where
  -- a table that stays has another tree, or it is the one with its other indexes
  abbrev From : Filled → Database → Type 0
  From h db = (Among h db × (h.table.tree ≡ tree → ⊥)) ⊎ ((f : Filled) × Among f db × (f.table.tree ≡ tree) × (h ≡ changed tree into f))

  from_changed : (db : Database) → Ordered (λ f g. tree_of f < tree_of g) db → (h : Filled) → Among h (change_indexes tree into db) → From h db
  from_changed [] order h among = absurd among
  from_changed (f ∷ db) order h among = by_test (nat_eq f.table.tree tree) refl (from_changed db order.1 h) among
    where
      by_test : (here : Bool) → nat_eq f.table.tree tree ≡ here → (Among h (change_indexes tree into db) → From h db) → Among h (if here then changed tree into f ∷ db else f ∷ change_indexes tree into db) → From h (f ∷ db)
      by_test true is rest (inl same) = inr (f, inl refl, (Decides-eqb f.table.tree tree).0 is, same)
      by_test true is rest (inr later) =
          let above : tree_of f < tree_of h = all_among (λ g. tree_of f < tree_of g) h db order.0 later in
          let here : tree_of f ≡ tree = (Decides-eqb f.table.tree tree).0 is in
          inl (inr later, λ trees. omega (arith, above, here, trees))
      by_test false is rest (inl same) = inl (inl same, λ trees. false≢true (sym is ∙ (Decides-eqb f.table.tree tree).1 (ap (λ (x : Filled). x.table.tree) (sym same) ∙ trees)))
      by_test false is rest (inr later) = elim (rest later) [ inl old ↦ inl (inr old.0, old.1) | inr new ↦ inr (new.0, inr new.1, new.2, new.3) ]

-- ---- an index that goes

module _ (t : Table) (index : Index) (listed : Among index t.indexes) where
  abbrev into : List Index → List Index
  into = without_index index.tree

  abbrev after : Database → Database
  after db = change_indexes t.tree into db

  abbrev differs : Index → Bool
  differs i = not (nat_eq i.tree index.tree)

  module _ (db : Database) (is : IsDatabase db) (has : Has db t) where
    tree_is : has.filled.table.tree ≡ t.tree
    tree_is = ap (λ (x : Table). x.tree) has.is

    one : (f : Filled) → Among f db → f.table.tree ≡ t.tree → f ≡ has.filled
    one f among tree = one_tree db f has.filled is among has.among (tree ∙ sym tree_is)

    here_listed : Among index has.filled.table.indexes
    here_listed = subst (λ (x : Table). Among index x.indexes) (sym has.is) listed

    -- nothing is made
    pub left_back : (e : Entry) → Among e (entries_of (after db)) → Among e (entries_of db)
    left_back e among =
        elim (indexes_back t.tree into ⊥ e db (λ f in_db tree there. inr (elim (filled_split f.table f.rows (into f.table.indexes) f.table.indexes (λ i. ⊥) (λ i stays. inl (passed differs f.table.indexes i stays)) e there) [
          | inl out ↦ absurd out.2
          | inr old ↦ old
        ])) among) [ inl never ↦ absurd never | inr old ↦ old ]

    -- an entry of an index of the table with this tree
    abbrev pub Gone : Entry → Type 0
    Gone e = (i : Index) × Among i has.filled.table.indexes × (i.tree ≡ index.tree) × OfIndex has.filled.table.name has.filled.rows i e

    by_tree : (i : Index) (same : Bool) → nat_eq i.tree index.tree ≡ same → Among i has.filled.table.indexes → Among i (into has.filled.table.indexes) ⊎ (i.tree ≡ index.tree)
    by_tree i true is among = inr ((Decides-eqb i.tree index.tree).0 is)
    by_tree i false is among = inl (passes differs has.filled.table.indexes i (ap not is) among)

    -- what is not of the index stays
    pub left_over : (e : Entry) → Among e (entries_of db) → Gone e ⊎ Among e (entries_of (after db))
    left_over e =
        indexes_over t.tree into (Gone e) e db
        (λ f in_db tree. subst (λ (g : Filled). Among e (filled_entries g) → Gone e ⊎ Among e (filled_entries (changed t.tree into g))) (sym (one f in_db tree))
        (λ here. elim (filled_split has.filled.table has.filled.rows has.filled.table.indexes (into has.filled.table.indexes) (λ i. i.tree ≡ index.tree) (λ i among. by_tree i (nat_eq i.tree index.tree) refl among) e here) [
          | inl out ↦ inl (out.0, out.1, out.2, out.3)
          | inr there ↦ inr there
        ]))

    -- no table has an index with this tree any more
    no_index : (h : Filled) → Among h (after db) → (j : Index) → Among j h.table.indexes → j.tree ≡ index.tree → ⊥
    no_index h among j in_h trees = by_from (from_changed t.tree into db (trees_ordered db is) h among)
      where
        by_from : From t.tree into h db → ⊥
        by_from (inl old) =
            old.1 (ap (λ (x : Filled). x.table.tree)
            (owner SameNumber tree_numbers_in db h has.filled j.tree index.tree (distinct_ordered (trees_of db) is.trees) old.0 has.among (inr (among_map (λ (x : Index). x.tree) j h.table.indexes in_h))
            (inr (among_map (λ (x : Index). x.tree) index has.filled.table.indexes here_listed)) trees (sym trees)) ∙ tree_is)
        by_from (inr new) =
            let there : Among j (into new.0.table.indexes) = subst (λ (x : Filled). Among j x.table.indexes) new.3 in_h in
            false≢true (ap not (sym ((Decides-eqb j.tree index.tree).1 trees)) ∙ is_passed differs new.0.table.indexes j there)

    -- its tables' entries can be told apart
    placed_after : (h : Filled) → Among h (after db) → IsPlaced h
    placed_after h among = by_from (from_changed t.tree into db (trees_ordered db is) h among)
      where
        by_from : From t.tree into h db → IsPlaced h
        by_from (inl old) = placed h (all_among IsFilled h db is.filled old.0)
        by_from (inr new) =
            let f = new.0 in
            let of_f = placed f (all_among IsFilled f db is.filled new.1) in
            subst IsPlaced (sym new.3) (record {
              tree = of_f.tree;
              index_trees = λ i among. of_f.index_trees i (passed differs f.table.indexes i among);
              columns = λ i among. of_f.columns i (passed differs f.table.indexes i among);
            })

    -- no entry of an index with this tree is left
    pub left_not : (g : Filled) → IsPlaced g → (i : Index) → Among i g.table.indexes → i.tree ≡ index.tree → (e : Entry) → OfIndex g.table.name g.rows i e → Among e (entries_of (after db)) → ⊥
    left_not g of_g i in_g trees e of among =
        let within = from_flat filled_entries e (after db) among in
        let found = index_tree within.x g (placed_after within.x within.among) of_g e i in_g of (place_of within.x e within.here) in
        no_index within.x within.among found.0 found.1 (found.2 ∙ trees)

-- ---- an index that is found by its name

abbrev HasIndex : (Table → Type 0) → Owned → Type 0
HasIndex P o = P o.table × Among o.index o.table.indexes

owned_on : (P : Table → Type 0) (tables : List Table) (name : List ℕ) → AllByRecursion P tables → OnFound (HasIndex P) (index_of tables name)
owned_on P [] name all = tt
owned_on P (t ∷ tables) name all = by_found (index_called t.indexes name) (called_in t.indexes name) (index_of tables name) (owned_on P tables name all.1)
  where
    by_found : (mine : Option Index) → OnFound (λ i. Among i t.indexes) mine → (other : Option Owned) → OnFound (HasIndex P) other → OnFound (HasIndex P) (or_owned t mine other)
    by_found None here other there = there
    by_found (Some index) here other there = (all.0, here)

module _ (keys : KeysDiffer) (encodings : NoEncodingBeginsAnother) (ties : TiesAreSame) (ranges : RangesHoldTheirKeys) (Keys : List ℕ → Type 0) where
  module _ (t : Table) (index : Index) (listed : Among index t.indexes) where
    abbrev Start : Database → Database → Type 0
    Start a b = Twins Keys a b × InBoth Keys a b t

    over : (a b : Database) → IsDatabase a → IsDatabase b → Agree Keys a b → Has a t → Has b t → (e : Entry) → IsAt Keys e → Among e (entries_of (after t index listed a)) → Among e (entries_of (after t index listed b))
    over a b is_a is_b agree has_a has_b e at among =
        elim (left_over t index listed b is_b has_b e (across keys encodings Keys a b is_a is_b agree e at (left_back t index listed a is_a has_a e among))) [
          | inl gone ↦
              let g = has_b.filled in
              absurd (left_not t index listed a is_a has_a g (placed g (all_among IsFilled g b is_b.filled has_b.among)) gone.0 gone.1 gone.2 e gone.3 among)
          | inr there ↦ there
        ]

    clear_goes : Goes Keys Start (Agrees Keys) (clear_index t index)
    clear_goes a b start inside = record {
      result = refl;
      reads = refl;
      left = agree_from Keys (after t index listed a) (after t index listed b) (over a b start.0.is_a start.0.is_b start.0.agree start.1.0 start.1.1)
          (over b a start.0.is_b start.0.is_a (agree_back Keys a b start.0.agree) start.1.1 start.1.0);
    }

    drop_goes : Goes Keys Start (Agrees Keys) (drop_that_index (record { table = t; index = index }))
    drop_goes =
        next_goes Keys (λ made. Start) (Agrees Keys) (λ made. next (clear_index t index) (λ dropped. give (done 0)))
        (λ made. next_goes Keys (Agrees Keys) (Agrees Keys) (λ dropped. give (done 0)) (λ dropped a b agree inside. record { result = refl; reads = refl; left = agree }) Start (clear_index t index) clear_goes)
        Start (refuse_if (is_rule index.kind) (refusal.Reserved index.name)) (refuse_if_goes Keys Start (is_rule index.kind) (refusal.Reserved index.name))

  drop_index_goes : (maybe : Bool) (name : List ℕ) → Goes Keys (Twins Keys) (Agrees Keys) (drop_index maybe name)
  drop_index_goes maybe name =
      next_goes Keys (WithTables Keys) (Agrees Keys) (λ tables. or_nothing maybe (refusal.NoIndex name) drop_that_index (index_of tables name))
      (λ tables a b has. by_found (index_of tables name) maybe a b has.0 (owned_on (InBoth Keys a b) tables name has.1)) (Twins Keys) read_catalog (catalog_goes keys encodings ties ranges Keys)
    where
      by_found : (found : Option Owned) (lenient : Bool) (a b : Database) → Twins Keys a b → OnFound (HasIndex (InBoth Keys a b)) found → Inside Keys (or_nothing lenient (refusal.NoIndex name) drop_that_index found a).reads
          → Same Keys (Agrees Keys) (or_nothing lenient (refusal.NoIndex name) drop_that_index found a) (or_nothing lenient (refusal.NoIndex name) drop_that_index found b)
      by_found None true a b twins has inside = record { result = refl; reads = refl; left = twins.agree }
      by_found None false a b twins has inside = record { result = refl; reads = refl; left = tt }
      by_found (Some o) lenient a b twins has inside = drop_goes o.table o.index has.1 a b (twins, has.0) inside

pub drop_index_decided : KeysDiffer → NoEncodingBeginsAnother → TiesAreSame → RangesHoldTheirKeys → (maybe : Bool) (name : List ℕ) → IsDecidedByItsReads (stmt.DropIndex maybe name)
drop_index_decided keys encodings ties ranges maybe name = decided_by (stmt.DropIndex maybe name) (λ Keys. drop_index_goes keys encodings ties ranges Keys maybe name)
