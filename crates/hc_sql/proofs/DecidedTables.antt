-- CREATE TABLE is decided by what it reads: the whole catalog, and so all tables.
use Rattle.std.proofs.Common.{◌≡◌, ℕ, ◌<◌, List, [], ◌∷◌, inl, inr, map, Bool, true, false, not, nat_lt, if◌then◌else◌, refl, sym, subst, ◌∙◌}
use Rattle.std.specs.Prelude.{◌&&◌}
use Rattle.std.specs.List.{AllByRecursion}
use Rattle.std.specs.Option.{is_some, option_map}
use Rattle.hc_ast.specs.declared.table.ColumnDef.{ColumnDef}
use Rattle.hc_ast.specs.declared.table.KeyRule.{KeyRule}
use Rattle.hc_ast.specs.declared.statement.Stmt.TheVariants as stmt
use Rattle.hc_record.specs.Laws.{NoEncodingBeginsAnother}
use Rattle.hc_key.specs.Laws.{KeysDiffer, RangesHoldTheirKeys}
use Rattle.hc_key.proofs.Prefix.{TiesAreSame}
use Rattle.hc_base.specs.Lookup.{Among}
use Rattle.hc_transcript.specs.declared.refusal.Refusal.TheVariants as refusal
use Rattle.hc_schema.specs.declared.entry.Entry.{Entry}
use Rattle.hc_schema.specs.declared.table.Table.{Table}
use Rattle.hc_schema.specs.Cells.{whole_catalog}
use Rattle.hc_schema.specs.Databases.{Database, Filled, IsDatabase, Agree, filled_entries, entries_of}
use Rattle.hc_schema.proofs.Orders.{Ordered, among_front, among_back, among_map, from_map, all_from, same_lists}
use Rattle.hc_schema.proofs.SamePlaces.{never_both, trees_ordered}
use Rattle.hc_sql.specs.Work.{give, next, refuse_if}
use Rattle.hc_sql.specs.Stored.{with_table}
use Rattle.hc_sql.specs.Looks.{read_catalog}
use Rattle.hc_sql.specs.Results.{done}
use Rattle.hc_sql.specs.Tests.{unless, test_lengths, too_long}
use Rattle.hc_sql.specs.Definitions.{is_reserved, new_table, last_tree, table_refused}
use Rattle.hc_sql.specs.Catalog.{table_named, in_use, test_name, is_tree, in_order, catalog_entries, put_table, make_table, next_tree, create_new_table, create_table_in, create_table}
use Rattle.hc_sql.specs.ChangeLaws.{IsDecidedByItsReads}
use Rattle.hc_sql.proofs.Decided.{look_decided}
use Rattle.hc_sql.proofs.DecidedQueries.{Shares}
use Rattle.hc_sql.proofs.KeptTables.{new_over, new_back}
use Rattle.hc_sql.proofs.Shared.{IsAt, across, agree_back, Covers, Shown, shown_at, whole_at}
use Rattle.hc_sql.proofs.DecidedChanges.{agree_from, Goes, next_goes, unless_goes, refuse_if_goes, Twins, WithTables, Agrees, tables_goes, decided_by}

-- ---- the whole catalog

abbrev table_in : Filled → Table
table_in f = f.table

ordered_map : {A B : Type 0} (R : B → B → Type 0) (f : A → B) (xs : List A) → Ordered (λ x y. R (f x) (f y)) xs → Ordered R (map f xs)
ordered_map R f [] order = tt
ordered_map {A} {B} R f (x ∷ xs) order = (all_map xs order.0, ordered_map R f xs order.1)
  where
    all_map : (ys : List A) → AllByRecursion (λ y. R (f x) (f y)) ys → AllByRecursion (R (f x)) (map f ys)
    all_map [] all = tt
    all_map (y ∷ ys) all = (all.0, all_map ys all.1)

tables_ordered : (db : Database) → IsDatabase db → Ordered (λ (t u : Table). t.tree < u.tree) (map table_in db)
tables_ordered db is = ordered_map (λ (t u : Table). t.tree < u.tree) table_in db (trees_ordered db is)

module _ (keys : KeysDiffer) (encodings : NoEncodingBeginsAnother) (ties : TiesAreSame) (ranges : RangesHoldTheirKeys) (Keys : List ℕ → Type 0) where
  module _ (a b : Database) (is_a : IsDatabase a) (is_b : IsDatabase b) (agree : Agree Keys a b) (covers : Covers keys encodings ranges Keys whole_catalog) where
    shown_whole : (f : Filled) → Among f a → Shown keys encodings ranges Keys a b is_a is_b agree f
    shown_whole f in_a = shown_at keys encodings ranges Keys a b is_a is_b agree f in_a (λ db is h in_db same. whole_at keys encodings ranges Keys db is h in_db covers)

    over : (t : Table) → Among t (map table_in a) → Among t (map table_in b)
    over t among =
        let from = from_map table_in t a among in
        let there = shown_whole from.x from.among in
        subst (λ x. Among x (map table_in b)) (sym (from.is ∙ there.same)) (among_map table_in there.other b there.among)

    all_shared : AllByRecursion (Shares keys encodings ties ranges Keys a b is_a is_b agree) (map table_in a)
    all_shared =
        all_from (Shares keys encodings ties ranges Keys a b is_a is_b agree) (map table_in a)
        (λ t among. let from = from_map table_in t a among in let there = shown_whole from.x from.among in record {
          on_a = record { filled = from.x; among = from.among; is = sym from.is };
          on_b = record { filled = there.other; among = there.among; is = sym (from.is ∙ there.same) };
        })

  same_tables : (a b : Database) (is_a : IsDatabase a) (is_b : IsDatabase b) (agree : Agree Keys a b) → Covers keys encodings ranges Keys whole_catalog → map table_in a ≡ map table_in b
  same_tables a b is_a is_b agree covers =
      same_lists (λ (t u : Table). t.tree < u.tree) (map table_in a) (map table_in b) (never_both (λ (t : Table). t.tree)) (tables_ordered a is_a) (tables_ordered b is_b)
      (over a b is_a is_b agree covers) (over b a is_b is_a (agree_back Keys a b agree) covers)

  pub catalog_goes : Goes Keys (Twins Keys) (WithTables Keys) read_catalog
  catalog_goes =
      tables_goes Keys keys encodings ties ranges read_catalog
      (λ a b twins. look_decided Keys a b (AllByRecursion (Shares keys encodings ties ranges Keys a b twins.is_a twins.is_b twins.agree)) whole_catalog (map table_in)
      (λ within. same_tables a b twins.is_a twins.is_b twins.agree (λ key here. within key (inl here)))
      (λ within. all_shared a b twins.is_a twins.is_b twins.agree (λ key here. within key (inl here))))

  -- ---- CREATE TABLE

  -- the new table is there
  put_there : (t : Table) (db : Database) (e : Entry) → Among e (filled_entries (record { table = t; rows = [] })) → Among e (entries_of (with_table t db))
  put_there t [] e own = among_front e (filled_entries (record { table = t; rows = [] })) [] own
  put_there t (f ∷ db) e own = by_test (nat_lt f.table.tree t.tree) (put_there t db e own)
    where
      by_test : (less : Bool) → Among e (entries_of (with_table t db)) → Among e (entries_of (if less then f ∷ with_table t db else record { table = t; rows = [] } ∷ f ∷ db))
      by_test true later = among_back e (filled_entries f) (entries_of (with_table t db)) later
      by_test false later = among_front e (filled_entries (record { table = t; rows = [] })) (entries_of (f ∷ db)) own

  put_over : (t : Table) (a b : Database) → IsDatabase a → IsDatabase b → Agree Keys a b → (e : Entry) → IsAt Keys e → Among e (entries_of (with_table t a)) → Among e (entries_of (with_table t b))
  put_over t a b is_a is_b agree e at among = elim (new_back t a e among) [ inl own ↦ put_there t b e own | inr old ↦ new_over t b e (across keys encodings Keys a b is_a is_b agree e at old) ]

  put_goes : (t : Table) → Goes Keys (Twins Keys) (Agrees Keys) (put_table t)
  put_goes t a b twins inside = record {
    result = refl;
    reads = refl;
    left = agree_from Keys (with_table t a) (with_table t b) (put_over t a b twins.is_a twins.is_b twins.agree) (put_over t b a twins.is_b twins.is_a (agree_back Keys a b twins.agree));
  }

  make_goes : (t : Table) → Goes Keys (Twins Keys) (Agrees Keys) (make_table t)
  make_goes t =
      next_goes Keys (λ x. Twins Keys) (Agrees Keys) (λ trees. next (test_lengths (in_order (catalog_entries t))) (λ lengths. next (put_table t) (λ put. give (done 0))))
      (λ trees. next_goes Keys (λ x. Twins Keys) (Agrees Keys) (λ lengths. next (put_table t) (λ put. give (done 0)))
      (λ lengths. next_goes Keys (Agrees Keys) (Agrees Keys) (λ put. give (done 0)) (λ put a b agree inside. record { result = refl; reads = refl; left = agree }) (Twins Keys) (put_table t) (put_goes t))
      (Twins Keys) (test_lengths (in_order (catalog_entries t))) (unless_goes Keys (Twins Keys) (too_long (in_order (catalog_entries t)))))
      (Twins Keys) (refuse_if (not (is_tree (last_tree t))) refusal.Trees) (refuse_if_goes Keys (Twins Keys) (not (is_tree (last_tree t))) refusal.Trees)

  new_goes : (tables : List Table) (name : List ℕ) (columns : List ColumnDef) (rules : List KeyRule) → Goes Keys (Twins Keys) (Agrees Keys) (create_new_table tables name columns rules)
  new_goes tables name columns rules =
      let t = new_table name (next_tree tables) columns rules in
      next_goes Keys (λ x. Twins Keys) (Agrees Keys) (λ free. next (unless (table_refused name columns rules)) (λ right. make_table t))
      (λ free. next_goes Keys (λ x. Twins Keys) (Agrees Keys) (λ right. make_table t) (λ right. make_goes t) (Twins Keys) (unless (table_refused name columns rules)) (unless_goes Keys (Twins Keys) (table_refused name columns rules)))
      (Twins Keys) (test_name tables name) (unless_goes Keys (Twins Keys) (option_map refusal.Exists (in_use tables name)))

  create_goes : (maybe : Bool) (name : List ℕ) (columns : List ColumnDef) (rules : List KeyRule) → Goes Keys (Twins Keys) (Agrees Keys) (create_table maybe name columns rules)
  create_goes maybe name columns rules =
      next_goes Keys (WithTables Keys) (Agrees Keys) (λ tables. create_table_in tables maybe name columns rules) (λ tables a b has. in_goes tables a b has.0) (Twins Keys) read_catalog catalog_goes
    where
      by_test : (tables : List Table) (there : Bool) → Goes Keys (Twins Keys) (Agrees Keys) (if there then give (done 0) else create_new_table tables name columns rules)
      by_test tables true = λ a b twins inside. record { result = refl; reads = refl; left = twins.agree }
      by_test tables false = new_goes tables name columns rules

      in_goes : (tables : List Table) → Goes Keys (Twins Keys) (Agrees Keys) (create_table_in tables maybe name columns rules)
      in_goes tables =
          next_goes Keys (λ x. Twins Keys) (Agrees Keys) (λ free. if maybe && is_some (table_named tables name) then give (done 0) else create_new_table tables name columns rules)
          (λ free. by_test tables (maybe && is_some (table_named tables name))) (Twins Keys) (refuse_if (is_reserved name) (refusal.Reserved name)) (refuse_if_goes Keys (Twins Keys) (is_reserved name) (refusal.Reserved name))

pub create_table_decided : KeysDiffer → NoEncodingBeginsAnother → TiesAreSame → RangesHoldTheirKeys → (maybe : Bool) (name : List ℕ) (columns : List ColumnDef) (rules : List KeyRule) → IsDecidedByItsReads (stmt.CreateTable maybe name columns rules)
create_table_decided keys encodings ties ranges maybe name columns rules = decided_by (stmt.CreateTable maybe name columns rules) (λ Keys. create_goes keys encodings ties ranges Keys maybe name columns rules)
