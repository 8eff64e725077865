-- What a DROP TABLE leaves of a database is a database.
use Rattle.std.proofs.Common.{ℕ, ◌<◌, List, [], ◌∷◌, ◌++◌, map, flat_map, Option, Some, None, Bool, true, false, not, nat_eq, if◌then◌else◌, arith}
use Rattle.std.specs.List.{AllByRecursion, filter}
use Rattle.hc_text.specs.Names.{SameName}
use Rattle.hc_ast.specs.declared.statement.Stmt.TheVariants as stmt
use Rattle.hc_transcript.specs.declared.refusal.Refusal.TheVariants as refusal
use Rattle.hc_schema.specs.declared.table.Table.{Table}
use Rattle.hc_schema.specs.Tables.{AscendFrom, AreDistinct, NamesDiffer}
use Rattle.hc_schema.specs.Databases.{Database, Filled, IsFilled, IsDatabase, names_of, trees_of}
use Rattle.hc_schema.proofs.TableCells.{all_front, all_back}
use Rattle.hc_schema.proofs.Orders.{Ordered}
use Rattle.hc_schema.proofs.SamePlaces.{tree_of, names_in}
use Rattle.hc_schema.proofs.OneRecord.{SameNumber, tree_numbers_in, distinct_ordered, differ_ordered, ordered_back}
use Rattle.hc_sql.specs.Work.{give, change}
use Rattle.hc_sql.specs.Stored.{without_table}
use Rattle.hc_sql.specs.Looks.{read_catalog}
use Rattle.hc_sql.specs.Results.{done}
use Rattle.hc_sql.specs.Tests.{keys_of}
use Rattle.hc_sql.specs.Catalog.{table_named, catalog_entries, ranges_of, drop_that_table, or_nothing, drop_table}
use Rattle.hc_sql.specs.Statements.{run}
use Rattle.hc_sql.proofs.OtherRows.{all_passing}
use Rattle.hc_sql.proofs.Leaves.{Leads, next_leads, IsLeft, ran_left}

-- ---- lists of parts

pub all_both : {A : Type 0} (P : A → Type 0) (xs ys : List A) → AllByRecursion P xs → AllByRecursion P ys → AllByRecursion P (xs ++ ys)
all_both P [] ys front back = back
all_both P (x ∷ xs) ys front back = (front.0, all_both P xs ys front.1 back)

module _ {A B : Type 0} (parts : A → List B) (test : A → Bool) where
  -- what all parts have, those of the elements that pass have
  flat_passing : (P : B → Type 0) (xs : List A) → AllByRecursion P (flat_map parts xs) → AllByRecursion P (flat_map parts (filter test xs))
  flat_passing P [] all = tt
  flat_passing P (x ∷ xs) all = by_test (test x) (flat_passing P xs (all_back P (parts x) (flat_map parts xs) all))
    where
      by_test : (passes : Bool) → AllByRecursion P (flat_map parts (filter test xs)) → AllByRecursion P (flat_map parts (if passes then x ∷ filter test xs else filter test xs))
      by_test true rest = all_both P (parts x) (flat_map parts (filter test xs)) (all_front P (parts x) (flat_map parts xs) all) rest
      by_test false rest = rest

  -- other parts after the same ones
  ordered_with : (R : B → B → Type 0) (ys : List B) (xs : List A) → Ordered R (ys ++ flat_map parts xs) → Ordered R (flat_map parts (filter test xs)) → Ordered R (ys ++ flat_map parts (filter test xs))
  ordered_with R [] xs order rest = rest
  ordered_with R (y ∷ ys) xs order rest = (
    all_both (R y) ys (flat_map parts (filter test xs)) (all_front (R y) ys (flat_map parts xs) order.0) (flat_passing (R y) xs (all_back (R y) ys (flat_map parts xs) order.0)),
    ordered_with R ys xs order.1 rest,
  )

  -- parts in order stay in order
  ordered_passing : (R : B → B → Type 0) (xs : List A) → Ordered R (flat_map parts xs) → Ordered R (flat_map parts (filter test xs))
  ordered_passing R [] order = tt
  ordered_passing R (x ∷ xs) order = by_test (test x) (ordered_passing R xs (ordered_back R (parts x) (flat_map parts xs) order))
    where
      by_test : (passes : Bool) → Ordered R (flat_map parts (filter test xs)) → Ordered R (flat_map parts (if passes then x ∷ filter test xs else filter test xs))
      by_test true rest = ordered_with R (parts x) xs order rest
      by_test false rest = rest

pub distinct_of : (ns : List ℕ) → Ordered (λ m n. SameNumber m n → ⊥) ns → AreDistinct ns
distinct_of [] order = tt
distinct_of (n ∷ ns) order = (order.0, distinct_of ns order.1)

pub differ_of : (names : List (List ℕ)) → Ordered (λ a b. SameName a b → ⊥) names → NamesDiffer names
differ_of [] order = tt
differ_of (name ∷ names) order = (order.0, differ_of names order.1)

-- ---- numbers that ascend

pub from_lower : (low high : ℕ) (ns : List ℕ) → low < high → AscendFrom high ns → AscendFrom low ns
from_lower low high [] less ascend = tt
from_lower low high (n ∷ ns) less ascend = (omega (arith, less, ascend.0), ascend.1)

ascend_passing : (test : Filled → Bool) (low : ℕ) (db : Database) → AscendFrom low (map tree_of db) → AscendFrom low (map tree_of (filter test db))
ascend_passing test low [] ascend = tt
ascend_passing test low (f ∷ db) ascend = by_test (test f) (ascend_passing test (tree_of f) db ascend.1)
  where
    by_test : (passes : Bool) → AscendFrom (tree_of f) (map tree_of (filter test db)) → AscendFrom low (map tree_of (if passes then f ∷ filter test db else filter test db))
    by_test true rest = (ascend.0, rest)
    by_test false rest = from_lower low (tree_of f) (map tree_of (filter test db)) ascend.0 rest

-- ---- a table that goes

fewer_tables : (tree : ℕ) (db : Database) → IsDatabase db → IsDatabase (without_table tree db)
fewer_tables tree db is =
    let test = λ (f : Filled). not (nat_eq f.table.tree tree) in
    record {
      filled = all_passing IsFilled test db is.filled;
      ascend = ascend_passing test 0 db is.ascend;
      trees = distinct_of (trees_of (filter test db)) (ordered_passing tree_numbers_in test (λ m n. SameNumber m n → ⊥) db (distinct_ordered (trees_of db) is.trees));
      names = differ_of (names_of (filter test db)) (ordered_passing names_in test (λ a b. SameName a b → ⊥) db (differ_ordered (names_of db) is.names));
    }

drop_leads : (t : Table) → Leads IsDatabase IsLeft (drop_that_table t)
drop_leads t = next_leads IsDatabase (λ dropped. IsDatabase) IsLeft (change (ranges_of t ++ keys_of (catalog_entries t)) (without_table t.tree)) (λ dropped. give (done 0)) (λ db is. fewer_tables t.tree db is) (λ dropped db is. is)

drop_table_leads : (maybe : Bool) (name : List ℕ) → Leads IsDatabase IsLeft (drop_table maybe name)
drop_table_leads maybe name =
    next_leads IsDatabase (λ tables. IsDatabase) IsLeft read_catalog (λ tables. or_nothing maybe (refusal.NoTable name) drop_that_table (table_named tables name)) (λ db is. is)
    (λ tables. by_found maybe (table_named tables name))
  where
    by_found : (lenient : Bool) (found : Option Table) → Leads IsDatabase IsLeft (or_nothing lenient (refusal.NoTable name) drop_that_table found)
    by_found true None = λ db is. is
    by_found false None = λ db is. tt
    by_found lenient (Some t) = drop_leads t

pub drop_table_left : (db : Database) (maybe : Bool) (name : List ℕ) → IsDatabase db → IsDatabase (run db (stmt.DropTable maybe name)).db
drop_table_left db maybe name is = ran_left db (drop_table maybe name db).db (drop_table maybe name db).result is (drop_table_leads maybe name db is)
