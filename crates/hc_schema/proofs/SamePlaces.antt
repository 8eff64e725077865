-- What a table of a database is found by: its name, its tree, and the order of what it has.
use Rattle.std.proofs.Common.{◌≡◌, ℕ, ◌+◌, ◌<◌, ◌≤◌, ℤ, pos, negsuc, Bool, true, false, T, ltb, List, [], ◌∷◌, ◌++◌, inl, map, length, refl, sym, arith}
use Rattle.std.specs.Prelude.{◌<ℤ◌}
use Rattle.std.specs.List.{AllByRecursion}
use Rattle.std.proofs.lemmas.Bool.{ltb-true}
use Rattle.hc_text.specs.Names.{SameName}
use Rattle.hc_base.specs.Lookup.{Among}
use Rattle.hc_schema.specs.declared.entry.Entry.{Entry}
use Rattle.hc_schema.specs.declared.table.Column.{Column}
use Rattle.hc_schema.specs.declared.table.Index.{Index}
use Rattle.hc_schema.specs.Tables.{NamesDiffer, AscendFrom, IsIndex, index_names}
use Rattle.hc_schema.specs.Cells.{column_entries}
use Rattle.hc_schema.specs.declared.row.Row.{Row}
use Rattle.hc_schema.specs.Databases.{Database, Filled, IsFilled, IsDatabase, IsAboveNone, RowidsAscend, names_of}
use Rattle.hc_schema.proofs.TableCells.{all_back}
use Rattle.hc_schema.proofs.Orders.{among_flat, all_among, all_from, Ordered, one_element}
use Rattle.hc_schema.proofs.EntryKinds.{nat_of, third_of, above_zero, IsPlaced}

-- ---- lists by a number

pub all_weaker : {A : Type 0} (P Q : A → Type 0) (xs : List A) → ((x : A) → P x → Q x) → AllByRecursion P xs → AllByRecursion Q xs
all_weaker P Q [] weaker all = tt
all_weaker P Q (x ∷ xs) weaker all = (weaker x all.0, all_weaker P Q xs weaker all.1)

-- things whose numbers ascend are in order of their numbers, and above the least
pub by_number : {A : Type 0} (f : A → ℕ) (low : ℕ) (xs : List A) → AscendFrom low (map f xs) → AllByRecursion (λ x. low < f x) xs × Ordered (λ x y. f x < f y) xs
by_number f low [] ascend = (tt, tt)
by_number f low (x ∷ xs) ascend =
    let rest = by_number f (f x) xs ascend.1 in
    ((ascend.0, all_weaker (λ y. f x < f y) (λ y. low < f y) xs (λ y above. omega (arith, ascend.0, above)) rest.0), (rest.0, rest.1))

pub never_both : {A : Type 0} (f : A → ℕ) (x y : A) → f x < f y → f y < f x → ⊥
never_both f x y less more = omega (arith, less, more)

-- ---- columns by their numbers

abbrev pub IsBefore : Entry → Entry → Type 0
IsBefore e d = nat_of (third_of e.key) < nat_of (third_of d.key)

pub columns_ordered : (name : List ℕ) (k : ℕ) (columns : List Column) → AllByRecursion (λ (e : Entry). k ≤ nat_of (third_of e.key)) (column_entries name k columns) × Ordered IsBefore (column_entries name k columns)
columns_ordered name k [] = (tt, tt)
columns_ordered name k (column ∷ columns) =
    let rest = columns_ordered name (k + 1) columns in (
      (omega arith, all_weaker (λ (e : Entry). k + 1 ≤ nat_of (third_of e.key)) (λ (e : Entry). k ≤ nat_of (third_of e.key)) (column_entries name (k + 1) columns) (λ e above. omega (arith, above)) rest.0),
      (all_weaker (λ (e : Entry). k + 1 ≤ nat_of (third_of e.key)) (λ (e : Entry). k < nat_of (third_of e.key)) (column_entries name (k + 1) columns) (λ e above. omega (arith, above)) rest.0, rest.1),
    )

-- ---- rows by their rowids

pub rows_above : (rowid : ℤ) (rows : List Row) → IsAboveNone rowid rows → AllByRecursion (λ (row : Row). rowid <ℤ row.rowid) rows
rows_above rowid [] above = tt
rows_above rowid (row ∷ rows) above = (above.0, rows_above rowid rows above.1)

pub rows_ordered : (rows : List Row) → RowidsAscend rows → Ordered (λ (x y : Row). x.rowid <ℤ y.rowid) rows
rows_ordered [] ascend = tt
rows_ordered (row ∷ rows) ascend = (rows_above row.rowid rows ascend.0, rows_ordered rows ascend.1)

below_number : (m n : ℕ) → T (ltb m n) → m < n
below_number m n is = ltb-true m n (by_test (ltb m n) is)
  where
    by_test : (b : Bool) → T b → b ≡ true
    by_test true is = refl
    by_test false is = absurd is

pub never_below : (a b : ℤ) → a <ℤ b → b <ℤ a → ⊥
never_below (pos m) (pos n) less more = omega (arith, below_number m n less.lt, below_number n m more.lt)
never_below (pos m) (negsuc n) less more = absurd less.lt
never_below (negsuc m) (pos n) less more = absurd more.lt
never_below (negsuc m) (negsuc n) less more = omega (arith, below_number n m less.lt, below_number m n more.lt)

-- ---- tables

abbrev pub by_name : Filled → Filled → Type 0
by_name f g = SameName f.table.name g.table.name → ⊥

differ_back : (xs ys : List (List ℕ)) → NamesDiffer (xs ++ ys) → NamesDiffer ys
differ_back [] ys differ = differ
differ_back (x ∷ xs) ys differ = differ_back xs ys differ.1

abbrev pub names_in : Filled → List (List ℕ)
names_in f = f.table.name ∷ index_names f.table.indexes

pub names_ordered : (db : Database) → NamesDiffer (names_of db) → Ordered by_name db
names_ordered [] differ = tt
names_ordered (f ∷ db) differ = (
  all_from (by_name f) db
      (λ g among. all_among (λ other. SameName f.table.name other → ⊥) g.table.name (names_of db) (all_back (λ other. SameName f.table.name other → ⊥) (index_names f.table.indexes) (names_of db) differ.0)
      (among_flat names_in g.table.name g db among (inl refl))),
  names_ordered db (differ_back (index_names f.table.indexes) (names_of db) differ.1),
)

-- one name is that of one table
pub one_name : (db : Database) (f g : Filled) → IsDatabase db → Among f db → Among g db → SameName f.table.name g.table.name → f ≡ g
one_name db f g is a b same = one_element by_name f g db (names_ordered db is.names) (λ differ. differ same) (λ differ. differ (sym same)) a b

abbrev pub tree_of : Filled → ℕ
tree_of f = f.table.tree

pub trees_ordered : (db : Database) → IsDatabase db → Ordered (λ f g. tree_of f < tree_of g) db
trees_ordered db is = (by_number tree_of 0 db is.ascend).1

-- one tree is that of one table
pub one_tree : (db : Database) (f g : Filled) → IsDatabase db → Among f db → Among g db → f.table.tree ≡ g.table.tree → f ≡ g
one_tree db f g is a b same = one_element (λ x y. tree_of x < tree_of y) f g db (trees_ordered db is) (λ less. omega (arith, less, same)) (λ less. omega (arith, less, same)) a b

-- its entries can be told apart
pub placed : (f : Filled) → IsFilled f → IsPlaced f
placed f is = record {
  tree = above_zero f.table.tree (omega (arith, is.table.form.tree.0));
  index_trees = λ index among.
      above_zero index.tree (omega (arith, all_among (λ (i : Index). f.table.tree < i.tree) index f.table.indexes (by_number (λ (i : Index). i.tree) f.table.tree f.table.indexes is.table.form.trees).0 among));
  columns = λ index among. (all_among (IsIndex (length f.table.columns)) index f.table.indexes is.table.form.indexes among).2.0;
}
