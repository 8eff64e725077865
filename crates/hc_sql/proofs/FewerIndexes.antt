-- What a DROP INDEX leaves of a database is a database.
use Rattle.std.proofs.Common.{◌≡◌, ℕ, ◌+◌, ◌≤◌, List, [], ◌∷◌, ◌++◌, inl, inr, length, map, flat_map, Option, Some, None, Bool, true, false, not, nat_eq, if◌then◌else◌, cond, refl, sym, ap, subst, ◌∙◌, arith}
use Rattle.std.specs.Prelude.{count_by}
use Rattle.std.specs.List.{AllByRecursion, filter}
use Rattle.std.proofs.lemmas.List.Sums.{sum_by-cons}
use Rattle.std.proofs.lemmas.Bool.{true≢false}
use Rattle.std.proofs.lemmas.Bool.Decides.{Decides-eqb}
use Rattle.hc_text.specs.Names.{SameName}
use Rattle.hc_ast.specs.declared.statement.Stmt.TheVariants as stmt
use Rattle.hc_base.specs.Lookup.{Among}
use Rattle.hc_transcript.specs.declared.refusal.Refusal.TheVariants as refusal
use Rattle.hc_schema.specs.declared.table.Table.{Table}
use Rattle.hc_schema.specs.declared.table.Index.{Index}
use Rattle.hc_schema.specs.Tables.{AscendFrom, IsIndex, IsMade, AreNumbered, IsKeyNotNull, is_rule, is_primary, index_names}
use Rattle.hc_schema.specs.Cells.{IsShort, column_entries, index_entry, index_name_entry, row_index_entry}
use Rattle.hc_schema.specs.Databases.{Database, Filled, IsRow, IsFilled, IsDatabase, AreUnique, names_of, trees_of}
use Rattle.hc_schema.proofs.TableCells.{all_front, all_back}
use Rattle.hc_schema.proofs.Orders.{Ordered}
use Rattle.hc_schema.proofs.SamePlaces.{all_weaker, tree_of, one_tree}
use Rattle.hc_schema.proofs.OneRecord.{SameNumber, distinct_ordered, differ_ordered, ordered_back, same_index}
use Rattle.hc_sql.specs.Work.{give, next, refuse_if}
use Rattle.hc_sql.specs.Stored.{Owned, index_of, with_indexes, change_indexes}
use Rattle.hc_sql.specs.Looks.{read_catalog}
use Rattle.hc_sql.specs.Results.{done}
use Rattle.hc_sql.specs.Catalog.{clear_index, or_nothing, drop_that_index, drop_index}
use Rattle.hc_sql.specs.Statements.{run}
use Rattle.hc_sql.proofs.DecidedLooks.{OnFound, Has}
use Rattle.hc_sql.proofs.DecidedIndexes.{changed}
use Rattle.hc_sql.proofs.KeptIndexes.{HasIndex, with_these, owned_in}
use Rattle.hc_sql.proofs.OtherRows.{all_passing}
use Rattle.hc_sql.proofs.FewerTables.{all_both, distinct_of, differ_of, from_lower}
use Rattle.hc_sql.proofs.Leaves.{Leads, next_leads, finds_leads, IsLeft, ran_left}

-- ---- indexes that pass a test

module _ (test : Index → Bool) where
  map_passing : {B : Type 0} (P : B → Type 0) (of : Index → B) (xs : List Index) → AllByRecursion P (map of xs) → AllByRecursion P (map of (filter test xs))
  map_passing P of [] all = tt
  map_passing P of (x ∷ xs) all = by_test (test x) (map_passing P of xs all.1)
    where
      by_test : (passes : Bool) → AllByRecursion P (map of (filter test xs)) → AllByRecursion P (map of (if passes then x ∷ filter test xs else filter test xs))
      by_test true rest = (all.0, rest)
      by_test false rest = rest

  ordered_passing : {B : Type 0} (R : B → B → Type 0) (of : Index → B) (xs : List Index) → Ordered R (map of xs) → Ordered R (map of (filter test xs))
  ordered_passing R of [] order = tt
  ordered_passing R of (x ∷ xs) order = by_test (test x) (ordered_passing R of xs order.1)
    where
      by_test : (passes : Bool) → Ordered R (map of (filter test xs)) → Ordered R (map of (if passes then x ∷ filter test xs else filter test xs))
      by_test true rest = (map_passing (R (of x)) of xs order.0, rest)
      by_test false rest = rest

  trees_passing : (low : ℕ) (xs : List Index) → AscendFrom low (map (λ (x : Index). x.tree) xs) → AscendFrom low (map (λ (x : Index). x.tree) (filter test xs))
  trees_passing low [] ascend = tt
  trees_passing low (x ∷ xs) ascend = by_test (test x) (trees_passing x.tree xs ascend.1)
    where
      by_test : (passes : Bool) → AscendFrom x.tree (map (λ (y : Index). y.tree) (filter test xs)) → AscendFrom low (map (λ (y : Index). y.tree) (if passes then x ∷ filter test xs else filter test xs))
      by_test true rest = (ascend.0, rest)
      by_test false rest = from_lower low x.tree (map (λ (y : Index). y.tree) (filter test xs)) ascend.0 rest

  cons_count : (of : Index → Bool) (x : Index) (xs : List Index) → count_by of (x ∷ xs) ≡ cond (of x) 1 0 + count_by of xs
  cons_count of x xs = sum_by-cons (λ y. cond (of y) 1 0) x xs

  count_passing : (of : Index → Bool) (xs : List Index) → count_by of (filter test xs) ≤ count_by of xs
  count_passing of [] = omega arith
  count_passing of (x ∷ xs) = by_test (test x) (count_passing of xs)
    where
      by_test : (passes : Bool) → count_by of (filter test xs) ≤ count_by of xs → count_by of (if passes then x ∷ filter test xs else filter test xs) ≤ count_by of (x ∷ xs)
      by_test true rest = omega (arith, cons_count of x xs, cons_count of x (filter test xs), rest)
      by_test false rest = omega (arith, cons_count of x xs, rest)

  -- indexes that statements made are numbered wherever they are
  made_numbered : (name : List ℕ) (n : ℕ) (xs : List Index) → AllByRecursion IsMade xs → AreNumbered name n xs
  made_numbered name n [] all = tt
  made_numbered name n (x ∷ xs) all = (λ rule. absurd (true≢false (sym rule ∙ all.0.0)), λ made. all)

  numbered_passing : (name : List ℕ) (n : ℕ) (xs : List Index) → ((x : Index) → Among x xs → is_rule x.kind ≡ true → test x ≡ true) → AreNumbered name n xs → AreNumbered name n (filter test xs)
  numbered_passing name n [] stays numbered = tt
  numbered_passing name n (x ∷ xs) stays numbered = by_rule (is_rule x.kind) refl (numbered_passing name (n + 1) xs (λ y among. stays y (inr among)))
    where
      by_test : (here : Bool) → here ≡ true → is_rule x.kind ≡ true → AreNumbered name (n + 1) (filter test xs) → AreNumbered name n (if here then x ∷ filter test xs else filter test xs)
      by_test true is rule rest = ((λ again. ((numbered.0 rule).0, rest)), λ made. absurd (true≢false (sym rule ∙ made)))
      by_test false is rule rest = absurd (true≢false (sym is))

      by_rule : (rule : Bool) → is_rule x.kind ≡ rule → (AreNumbered name (n + 1) xs → AreNumbered name (n + 1) (filter test xs)) → AreNumbered name n (filter test (x ∷ xs))
      by_rule true is rest = by_test (test x) (stays x (inl refl) is) is (rest (numbered.0 is).1)
      by_rule false is rest = made_numbered name n (filter test (x ∷ xs)) (all_passing IsMade test (x ∷ xs) (numbered.1 is))

  -- a table with indexes of those that it had
  fewer_filled : (f : Filled) → IsFilled f → ((x : Index) → Among x f.table.indexes → is_rule x.kind ≡ true → test x ≡ true) → IsFilled (with_these f.table (filter test f.table.indexes) f.rows)
  fewer_filled f is stays =
      let t = f.table in
      let xs = t.indexes in
      let form = is.table.form in
      record {
        table = record {
          form = record {
            name = form.name;
            free = form.free;
            tree = form.tree;
            trees = trees_passing t.tree xs form.trees;
            count = form.count;
            columns = form.columns;
            column_names = form.column_names;
            alias = form.alias;
            indexes = all_passing (IsIndex (length t.columns)) test xs form.indexes;
            index_names = (map_passing (λ other. SameName t.name other → ⊥) (λ (x : Index). x.name) xs form.index_names.0, differ_of (index_names (filter test xs)) (ordered_passing (λ a b. SameName a b → ⊥) (λ (x : Index). x.name) xs (differ_ordered (index_names xs) form.index_names.1)));
            numbered = numbered_passing t.name 1 xs stays form.numbered;
            one_key = omega (arith, count_passing (λ (x : Index). is_primary x.kind) xs, form.one_key);
            key_not_null = all_passing (IsKeyNotNull t.columns) test xs form.key_not_null;
          };
          short = (
            is.table.short.0,
            all_both IsShort (column_entries t.name 1 t.columns) (map (index_entry t.name) (filter test xs)) (all_front IsShort (column_entries t.name 1 t.columns) (map (index_entry t.name) xs) is.table.short.1)
                (map_passing IsShort (index_entry t.name) xs (all_back IsShort (column_entries t.name 1 t.columns) (map (index_entry t.name) xs) is.table.short.1)),
          );
          short_names = map_passing IsShort (index_name_entry t.name) xs is.table.short_names;
        };
        rows = all_weaker (IsRow t) (IsRow (with_indexes (filter test xs) t)) f.rows (λ row of. record { rowid = of.rowid; values = of.values; fit = of.fit; alias = of.alias; short = (of.short.0, map_passing IsShort (row_index_entry row.rowid row.values) xs of.short.1) }) is.rows;
        ascend = is.ascend;
        unique = all_passing (λ i. AreUnique i f.rows) test xs is.unique;
      }

-- ---- lists in order, of two parts

module _ {B : Type 0} (R : B → B → Type 0) where
  ordered_front : (ys zs : List B) → Ordered R (ys ++ zs) → Ordered R ys
  ordered_front [] zs order = tt
  ordered_front (y ∷ ys) zs order = (all_front (R y) ys zs order.0, ordered_front ys zs order.1)

  crossed : (ys zs : List B) → Ordered R (ys ++ zs) → AllByRecursion (λ y. AllByRecursion (R y) zs) ys
  crossed [] zs order = tt
  crossed (y ∷ ys) zs order = (all_back (R y) ys zs order.0, crossed ys zs order.1)

  joined : (ys zs : List B) → Ordered R ys → Ordered R zs → AllByRecursion (λ y. AllByRecursion (R y) zs) ys → Ordered R (ys ++ zs)
  joined [] zs front back cross = back
  joined (y ∷ ys) zs front back cross = (all_both (R y) ys zs front.0 cross.0, joined ys zs front.1 back cross.1)

-- ---- a database in which a table has fewer indexes

module _ (tree : ℕ) (test : Index → Bool) where
  abbrev into : List Index → List Index
  into = filter test

  abbrev fewer : Database → Database
  fewer db = change_indexes tree into db

  all_fewer : (db : Database) → ((f : Filled) → Among f db → f.table.tree ≡ tree → IsFilled f → IsFilled (changed tree into f)) → AllByRecursion IsFilled db → AllByRecursion IsFilled (fewer db)
  all_fewer [] fills all = tt
  all_fewer (f ∷ db) fills all = by_test (nat_eq f.table.tree tree) refl (all_fewer db (λ g among. fills g (inr among)) all.1)
    where
      by_test : (here : Bool) → nat_eq f.table.tree tree ≡ here → AllByRecursion IsFilled (fewer db) → AllByRecursion IsFilled (if here then changed tree into f ∷ db else f ∷ fewer db)
      by_test true same rest = (fills f (inl refl) ((Decides-eqb f.table.tree tree).0 same) all.0, all.1)
      by_test false same rest = (all.0, rest)

  trees_stay : (db : Database) → map tree_of (fewer db) ≡ map tree_of db
  trees_stay [] = refl
  trees_stay (f ∷ db) = by_test (nat_eq f.table.tree tree) (trees_stay db)
    where
      by_test : (here : Bool) → map tree_of (fewer db) ≡ map tree_of db → map tree_of (if here then changed tree into f ∷ db else f ∷ fewer db) ≡ tree_of f ∷ map tree_of db
      by_test true rest = refl
      by_test false rest = ap (λ l. tree_of f ∷ l) rest

  -- a table's own and one of each index
  module _ {B : Type 0} (own : Table → B) (of : Index → B) (stays : (t : Table) (xs : List Index) → own (with_indexes xs t) ≡ own t) where
    abbrev parts : Filled → List B
    parts f = own f.table ∷ map of f.table.indexes

    part_all : (P : B → Type 0) (f : Filled) → AllByRecursion P (parts f) → AllByRecursion P (parts (changed tree into f))
    part_all P f all = (subst P (sym (stays f.table (into f.table.indexes))) all.0, map_passing test P of f.table.indexes all.1)

    parts_all : (P : B → Type 0) (db : Database) → AllByRecursion P (flat_map parts db) → AllByRecursion P (flat_map parts (fewer db))
    parts_all P [] all = tt
    parts_all P (f ∷ db) all = by_test (nat_eq f.table.tree tree) (parts_all P db (all_back P (parts f) (flat_map parts db) all))
      where
        by_test : (here : Bool) → AllByRecursion P (flat_map parts (fewer db)) → AllByRecursion P (flat_map parts (if here then changed tree into f ∷ db else f ∷ fewer db))
        by_test true rest = all_both P (parts (changed tree into f)) (flat_map parts db) (part_all P f (all_front P (parts f) (flat_map parts db) all)) (all_back P (parts f) (flat_map parts db) all)
        by_test false rest = all_both P (parts f) (flat_map parts (fewer db)) (all_front P (parts f) (flat_map parts db) all) rest

    part_ordered : (R : B → B → Type 0) (f : Filled) → Ordered R (parts f) → Ordered R (parts (changed tree into f))
    part_ordered R f order =
        (subst (λ x. AllByRecursion (R x) (map of (into f.table.indexes))) (sym (stays f.table (into f.table.indexes))) (map_passing test (R (own f.table)) of f.table.indexes order.0), ordered_passing test R of f.table.indexes order.1)

    parts_ordered : (R : B → B → Type 0) (db : Database) → Ordered R (flat_map parts db) → Ordered R (flat_map parts (fewer db))
    parts_ordered R [] order = tt
    parts_ordered R (f ∷ db) order = by_test (nat_eq f.table.tree tree) (parts_ordered R db (ordered_back R (parts f) (flat_map parts db) order))
      where
        by_test : (here : Bool) → Ordered R (flat_map parts (fewer db)) → Ordered R (flat_map parts (if here then changed tree into f ∷ db else f ∷ fewer db))
        by_test true rest =
            joined R (parts (changed tree into f)) (flat_map parts db) (part_ordered R f (ordered_front R (parts f) (flat_map parts db) order)) (ordered_back R (parts f) (flat_map parts db) order)
            (part_all (λ y. AllByRecursion (R y) (flat_map parts db)) f (crossed R (parts f) (flat_map parts db) order))
        by_test false rest =
            joined R (parts f) (flat_map parts (fewer db)) (ordered_front R (parts f) (flat_map parts db) order) rest
            (all_weaker (λ y. AllByRecursion (R y) (flat_map parts db)) (λ y. AllByRecursion (R y) (flat_map parts (fewer db))) (parts f) (λ y all. parts_all (R y) db all) (crossed R (parts f) (flat_map parts db) order))

  fewer_left : (db : Database) → ((f : Filled) → Among f db → f.table.tree ≡ tree → IsFilled f → IsFilled (changed tree into f)) → IsDatabase db → IsDatabase (fewer db)
  fewer_left db fills is = record {
    filled = all_fewer db fills is.filled;
    ascend = subst (AscendFrom 0) (sym (trees_stay db)) is.ascend;
    trees = distinct_of (trees_of (fewer db)) (parts_ordered (λ t. t.tree) (λ x. x.tree) (λ t xs. refl) (λ m n. SameNumber m n → ⊥) db (distinct_ordered (trees_of db) is.trees));
    names = differ_of (names_of (fewer db)) (parts_ordered (λ t. t.name) (λ x. x.name) (λ t xs. refl) (λ a b. SameName a b → ⊥) db (differ_ordered (names_of db) is.names));
  }

-- ---- an index that goes

module _ (t : Table) (index : Index) (listed : Among index t.indexes) where
  abbrev differs : Index → Bool
  differs i = not (nat_eq i.tree index.tree)

  -- the indexes of rules stay
  rules_stay : (db : Database) → IsDatabase db → Has db t → is_rule index.kind ≡ false → (f : Filled) → Among f db → f.table.tree ≡ t.tree → (x : Index) → Among x f.table.indexes → is_rule x.kind ≡ true → differs x ≡ true
  rules_stay db is has made f in_db tree x among rule = by_test (nat_eq x.tree index.tree) refl
    where
      one : f ≡ has.filled
      one = one_tree db f has.filled is in_db has.among (tree ∙ sym (ap (λ (y : Table). y.tree) has.is))

      of_f : Among index f.table.indexes
      of_f = subst (λ (y : Table). Among index y.indexes) (sym (ap (λ (g : Filled). g.table) one ∙ has.is)) listed

      by_test : (same : Bool) → nat_eq x.tree index.tree ≡ same → not same ≡ true
      by_test true same = absurd (true≢false (sym rule ∙ ap (λ (y : Index). is_rule y.kind) (same_index db is f x index in_db among of_f ((Decides-eqb x.tree index.tree).0 same)) ∙ made))
      by_test false same = refl

  abbrev Start : Database → Type 0
  Start db = IsDatabase db × Has db t

  clear_leads : is_rule index.kind ≡ false → Leads Start (λ done. IsDatabase) (clear_index t index)
  clear_leads made db start = fewer_left t.tree differs db (λ f in_db tree of_f. fewer_filled differs f of_f (rules_stay db start.0 start.1 made f in_db tree)) start.0

  drop_leads : Leads Start IsLeft (drop_that_index (record { table = t; index = index }))
  drop_leads =
      next_leads Start (λ done db. Start db × (is_rule index.kind ≡ false)) IsLeft (refuse_if (is_rule index.kind) (refusal.Reserved index.name)) (λ made. next (clear_index t index) (λ dropped. give (done 0)))
      (λ db start. by_rule (is_rule index.kind) refl db start)
      (λ made db start. next_leads Start (λ dropped. IsDatabase) IsLeft (clear_index t index) (λ dropped. give (done 0)) (clear_leads start.1) (λ dropped d is. is) db start.0)
    where
      by_rule : (rule : Bool) → is_rule index.kind ≡ rule → Leads Start (λ done db. Start db × (is_rule index.kind ≡ false)) (refuse_if rule (refusal.Reserved index.name))
      by_rule true is = λ db start. tt
      by_rule false is = λ db start. (start, is)

drop_index_leads : (maybe : Bool) (name : List ℕ) → Leads IsDatabase IsLeft (drop_index maybe name)
drop_index_leads maybe name =
    next_leads IsDatabase (λ tables db. IsDatabase db × OnFound (HasIndex db) (index_of tables name)) IsLeft read_catalog (λ tables. or_nothing maybe (refusal.NoIndex name) drop_that_index (index_of tables name))
    (finds_leads IsDatabase (λ db tables. OnFound (HasIndex db) (index_of tables name)) read_catalog (λ db is. (refl, owned_in db name)))
    (λ tables. by_found maybe (index_of tables name))
  where
    by_found : (lenient : Bool) (found : Option Owned) → Leads (λ db. IsDatabase db × OnFound (HasIndex db) found) IsLeft (or_nothing lenient (refusal.NoIndex name) drop_that_index found)
    by_found true None = λ db start. start.0
    by_found false None = λ db start. tt
    by_found lenient (Some o) = λ db start. drop_leads o.table o.index start.1.1 db (start.0, start.1.0)

pub drop_index_left : (db : Database) (maybe : Bool) (name : List ℕ) → IsDatabase db → IsDatabase (run db (stmt.DropIndex maybe name)).db
drop_index_left db maybe name is = ran_left db (drop_index maybe name db).db (drop_index maybe name db).result is (drop_index_leads maybe name db is)
