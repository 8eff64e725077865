-- Other rows for a table: what is left is a database where the rows are what the table's rows have to be.
use Rattle.std.proofs.Common.{◌≡◌, ℕ, ℤ, List, [], ◌∷◌, ◌++◌, inl, inr, map, flat_map, Bool, true, false, not, nat_eq, if◌then◌else◌, refl, sym, ap, subst, ◌∙◌}
use Rattle.std.specs.List.{AllByRecursion, filter}
use Rattle.std.specs.Ordering.{int_eq}
use Rattle.std.proofs.lemmas.Bool.Decides.{Decides-eqb}
use Rattle.std.proofs.lemmas.Bool.{false≢true}
use Rattle.hc_base.specs.Lookup.{Among}
use Rattle.hc_schema.specs.declared.table.Table.{Table}
use Rattle.hc_schema.specs.declared.table.Index.{Index}
use Rattle.hc_schema.specs.declared.row.Row.{Row}
use Rattle.hc_schema.specs.Tables.{AscendFrom, AreDistinct, NamesDiffer, index_names}
use Rattle.hc_schema.specs.Databases.{Database, Filled, IsRow, IsFilled, IsDatabase, IsAboveNone, RowidsAscend, DifferIn, AreUnique}
use Rattle.hc_schema.proofs.SamePlaces.{all_weaker}
use Rattle.hc_sql.specs.Stored.{without_row, with_rows}

-- ---- rows that pass a test

pub all_passing : {A : Type 0} (P : A → Type 0) (test : A → Bool) (xs : List A) → AllByRecursion P xs → AllByRecursion P (filter test xs)
all_passing P test [] all = tt
all_passing {A} P test (x ∷ xs) all = by_test (test x) (all_passing P test xs all.1)
  where
    by_test : (passes : Bool) → AllByRecursion P (filter test xs) → AllByRecursion P (if passes then x ∷ filter test xs else filter test xs)
    by_test true rest = (all.0, rest)
    by_test false rest = rest

above_passing : (test : Row → Bool) (rowid : ℤ) (rows : List Row) → IsAboveNone rowid rows → IsAboveNone rowid (filter test rows)
above_passing test rowid [] above = tt
above_passing test rowid (row ∷ rows) above = by_test (test row) (above_passing test rowid rows above.1)
  where
    by_test : (passes : Bool) → IsAboveNone rowid (filter test rows) → IsAboveNone rowid (if passes then row ∷ filter test rows else filter test rows)
    by_test true rest = (above.0, rest)
    by_test false rest = rest

ascend_passing : (test : Row → Bool) (rows : List Row) → RowidsAscend rows → RowidsAscend (filter test rows)
ascend_passing test [] ascend = tt
ascend_passing test (row ∷ rows) ascend = by_test (test row) (ascend_passing test rows ascend.1)
  where
    by_test : (passes : Bool) → RowidsAscend (filter test rows) → RowidsAscend (if passes then row ∷ filter test rows else filter test rows)
    by_test true rest = (above_passing test row.rowid rows ascend.0, rest)
    by_test false rest = rest

unique_passing : (index : Index) (test : Row → Bool) (rows : List Row) → AreUnique index rows → AreUnique index (filter test rows)
unique_passing index test [] unique = tt
unique_passing index test (row ∷ rows) unique = by_test (test row) (unique_passing index test rows unique.1)
  where
    by_test : (passes : Bool) → AreUnique index (filter test rows) → AreUnique index (if passes then row ∷ filter test rows else filter test rows)
    by_test true rest = (all_passing (DifferIn index row) test rows unique.0, rest)
    by_test false rest = rest

-- a table with rows of those that it had
passing_filled : (test : Row → Bool) (f : Filled) → IsFilled f → IsFilled (record { table = f.table; rows = filter test f.rows })
passing_filled test f is = record {
  table = is.table;
  rows = all_passing (IsRow f.table) test f.rows is.rows;
  ascend = ascend_passing test f.rows is.ascend;
  unique = all_weaker (λ index. AreUnique index f.rows) (λ index. AreUnique index (filter test f.rows)) f.table.indexes (λ index unique. unique_passing index test f.rows unique) is.unique;
}

-- ---- other rows for a table

module _ (tree : ℕ) (into : List Row → List Row) where
  abbrev other : Filled → Filled
  other f = record { table = f.table; rows = into f.rows }

  -- the tables stay
  map_stays : {B : Type 0} (g : Table → B) (db : Database) → map (λ (f : Filled). g f.table) (with_rows tree into db) ≡ map (λ (f : Filled). g f.table) db
  map_stays g [] = refl
  map_stays {B} g (f ∷ db) = by_test (nat_eq f.table.tree tree) (map_stays g db)
    where
      by_test : (here : Bool) → map (λ (x : Filled). g x.table) (with_rows tree into db) ≡ map (λ (x : Filled). g x.table) db
          → map (λ (x : Filled). g x.table) (if here then other f ∷ db else f ∷ with_rows tree into db) ≡ g f.table ∷ map (λ (x : Filled). g x.table) db
      by_test true rest = refl
      by_test false rest = ap (λ l. g f.table ∷ l) rest

  flat_stays : {B : Type 0} (g : Table → List B) (db : Database) → flat_map (λ (f : Filled). g f.table) (with_rows tree into db) ≡ flat_map (λ (f : Filled). g f.table) db
  flat_stays g [] = refl
  flat_stays {B} g (f ∷ db) = by_test (nat_eq f.table.tree tree) (flat_stays g db)
    where
      by_test : (here : Bool) → flat_map (λ (x : Filled). g x.table) (with_rows tree into db) ≡ flat_map (λ (x : Filled). g x.table) db
          → flat_map (λ (x : Filled). g x.table) (if here then other f ∷ db else f ∷ with_rows tree into db) ≡ g f.table ++ flat_map (λ (x : Filled). g x.table) db
      by_test true rest = refl
      by_test false rest = ap (λ l. g f.table ++ l) rest

  all_stay : (db : Database) → ((f : Filled) → Among f db → f.table.tree ≡ tree → IsFilled f → IsFilled (other f)) → AllByRecursion IsFilled db → AllByRecursion IsFilled (with_rows tree into db)
  all_stay [] fills all = tt
  all_stay (f ∷ db) fills all = by_test (nat_eq f.table.tree tree) refl (all_stay db (λ g among. fills g (inr among)) all.1)
    where
      by_test : (here : Bool) → nat_eq f.table.tree tree ≡ here → AllByRecursion IsFilled (with_rows tree into db) → AllByRecursion IsFilled (if here then other f ∷ db else f ∷ with_rows tree into db)
      by_test true same rest = (fills f (inl refl) ((Decides-eqb f.table.tree tree).0 same) all.0, all.1)
      by_test false same rest = (all.0, rest)

  pub other_rows_left : (db : Database) → ((f : Filled) → Among f db → f.table.tree ≡ tree → IsFilled f → IsFilled (other f)) → IsDatabase db → IsDatabase (with_rows tree into db)
  other_rows_left db fills is = record {
    filled = all_stay db fills is.filled;
    ascend = subst (AscendFrom 0) (sym (map_stays (λ t. t.tree) db)) is.ascend;
    trees = subst AreDistinct (sym (flat_stays (λ t. t.tree ∷ map (λ (index : Index). index.tree) t.indexes) db)) is.trees;
    names = subst NamesDiffer (sym (flat_stays (λ t. t.name ∷ index_names t.indexes) db)) is.names;
  }

  -- the table is there with its other rows
  pub other_there : (db : Database) (f : Filled) → ((g : Filled) → Among g db → g.table.tree ≡ tree → g ≡ f) → Among f db → f.table.tree ≡ tree → Among (other f) (with_rows tree into db)
  other_there [] f one among is = absurd among
  other_there (h ∷ db) f one among is = by_test (nat_eq h.table.tree tree) refl (λ later. other_there db f (λ g in_rest. one g (inr in_rest)) later is) among
    where
      by_test : (here : Bool) → nat_eq h.table.tree tree ≡ here → (Among f db → Among (other f) (with_rows tree into db)) → Among f (h ∷ db)
          → Among (other f) (if here then other h ∷ db else h ∷ with_rows tree into db)
      by_test true same rest place = inl (ap other (sym (one h (inl refl) ((Decides-eqb h.table.tree tree).0 same))))
      by_test false same rest (inl here) = absurd (false≢true (sym same ∙ (Decides-eqb h.table.tree tree).1 (subst (λ (g : Filled). g.table.tree ≡ tree) here is)))
      by_test false same rest (inr later) = inr (rest later)

-- a row that is taken out leaves a database
pub taken_out : (tree : ℕ) (rowid : ℤ) (db : Database) → IsDatabase db → IsDatabase (with_rows tree (without_row rowid) db)
taken_out tree rowid db is = other_rows_left tree (without_row rowid) db (λ f among same filled. passing_filled (λ row. not (int_eq row.rowid rowid)) f filled) is
