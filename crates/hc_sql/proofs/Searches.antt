-- What statements look at is decided by the ranges that are read for it.
use Rattle.std.proofs.Common.{◌≡◌, ℕ, ℤ, List, [], ◌∷◌, ◌⊎◌, inl, inr, map, Some, None, Bool, true, false, nat_eq, if◌then◌else◌, refl, sym, ap, subst, ◌∙◌}
use Rattle.std.specs.Prelude.{◌<ℤ◌}
use Rattle.std.specs.List.{filter}
use Rattle.std.specs.Ordering.{int_eq}
use Rattle.std.specs.Str.{str_to_ascii_lowercase}
use Rattle.std.proofs.lemmas.Bool.{true≢false}
use Rattle.std.specs.Bool.{Decides}
use Rattle.std.proofs.lemmas.Bool.Decides.{Decides-eqb, Decides-int_eq}
use Rattle.std.proofs.lemmas.Slice.Eq.{bytes_eq-Decides}
use Rattle.hc_text.specs.Names.{SameName}
use Rattle.hc_base.specs.Lookup.{Among}
use Rattle.hc_schema.specs.declared.row.Row.{Row}
use Rattle.hc_schema.specs.Databases.{Database, Filled}
use Rattle.hc_schema.specs.Binding.Names.{same_name}
use Rattle.hc_schema.proofs.Orders.{Ordered, all_among, all_from}
use Rattle.hc_sql.specs.Stored.{table_of, rows_in, row_at}

-- ---- what is looked for in a list

-- the table of a name, with its rows, or none
abbrev pub Search : Database → List ℕ → Type 0
Search db name =
    ((table_of db name ≡ None) × ((f : Filled) → Among f db → SameName f.table.name name → ⊥))
    ⊎ ((f : Filled) × Among f db × SameName f.table.name name × (table_of db name ≡ Some f.table))

pub search : (db : Database) (name : List ℕ) → Search db name
search [] name = inl (refl, λ f among. absurd among)
search (f ∷ db) name = by_test (same_name f.table.name name) refl (search db name)
  where
    names : Decides (same_name f.table.name name) (SameName f.table.name name)
    names = bytes_eq-Decides (str_to_ascii_lowercase f.table.name) (str_to_ascii_lowercase name)

    by_test : (here : Bool) → same_name f.table.name name ≡ here → Search db name → Search (f ∷ db) name
    by_test true is rest = inr (f, inl refl, names.0 is, ap (λ c. if c then Some f.table else table_of db name) is)
    by_test false is rest = elim rest [
      | inl none ↦ inl (
        ap (λ c. if c then Some f.table else table_of db name) is ∙ none.0,
        λ g among same. elim among [ inl here ↦ true≢false (sym (names.1 (subst (λ (h : Filled). SameName h.table.name name) here same)) ∙ is) | inr later ↦ none.1 g later same ],
      )
      | inr found ↦ inr (found.0, inr found.1, found.2, ap (λ c. if c then Some f.table else table_of db name) is ∙ found.3)
    ]

-- the rows of a table that alone has its tree
pub rows_found : (db : Database) (tree : ℕ) (f : Filled) → ((g : Filled) → Among g db → g.table.tree ≡ tree → g ≡ f) → Among f db → f.table.tree ≡ tree → rows_in db tree ≡ f.rows
rows_found [] tree f one among is = absurd among
rows_found (h ∷ db) tree f one among is = by_test (nat_eq h.table.tree tree) refl (λ later. rows_found db tree f (λ g in_rest. one g (inr in_rest)) later is)
  where
    trees : Decides (nat_eq h.table.tree tree) (h.table.tree ≡ tree)
    trees = Decides-eqb h.table.tree tree

    by_test : (here : Bool) → nat_eq h.table.tree tree ≡ here → (Among f db → rows_in db tree ≡ f.rows) → rows_in (h ∷ db) tree ≡ f.rows
    by_test true same rest = ap (λ c. if c then h.rows else rows_in db tree) same ∙ ap (λ (g : Filled). g.rows) (one h (inl refl) (trees.0 same))
    by_test false same rest = ap (λ c. if c then h.rows else rows_in db tree) same ∙ elim among [
      | inl here ↦ absurd (true≢false (sym (trees.1 (subst (λ (g : Filled). g.table.tree ≡ tree) here is)) ∙ same))
      | inr later ↦ rest later
    ]

-- the row of a rowid, or none
abbrev pub SearchRow : ℤ → List Row → Type 0
SearchRow rowid rows =
    ((row_at rowid rows ≡ None) × ((row : Row) → Among row rows → row.rowid ≡ rowid → ⊥))
    ⊎ ((row : Row) × Among row rows × (row.rowid ≡ rowid) × (row_at rowid rows ≡ Some row))

pub search_row : (rowid : ℤ) (rows : List Row) → SearchRow rowid rows
search_row rowid [] = inl (refl, λ row among. absurd among)
search_row rowid (row ∷ rows) = by_test (int_eq row.rowid rowid) refl (search_row rowid rows)
  where
    same : Decides (int_eq row.rowid rowid) (row.rowid ≡ rowid)
    same = Decides-int_eq row.rowid rowid

    by_test : (here : Bool) → int_eq row.rowid rowid ≡ here → SearchRow rowid rows → SearchRow rowid (row ∷ rows)
    by_test true is rest = inr (row, inl refl, same.0 is, ap (λ c. if c then Some row else row_at rowid rows) is)
    by_test false is rest = elim rest [
      | inl none ↦ inl (
        ap (λ c. if c then Some row else row_at rowid rows) is ∙ none.0,
        λ other among here. elim among [ inl first ↦ true≢false (sym (same.1 (subst (λ (r : Row). r.rowid ≡ rowid) first here)) ∙ is) | inr later ↦ none.1 other later here ],
      )
      | inr found ↦ inr (found.0, inr found.1, found.2, ap (λ c. if c then Some row else row_at rowid rows) is ∙ found.3)
    ]

-- ---- rows that pass a test

pub passing : (test : Row → Bool) (rows : List Row) (k : ℤ) → Among k (map (λ (row : Row). row.rowid) (filter test rows)) → (row : Row) × Among row rows × (test row ≡ true) × (row.rowid ≡ k)
passing test [] k among = absurd among
passing test (row ∷ rows) k among = by_test (test row) refl (passing test rows k) among
  where
    by_test : (passes : Bool) → test row ≡ passes → (Among k (map (λ (r : Row). r.rowid) (filter test rows)) → (r : Row) × Among r rows × (test r ≡ true) × (r.rowid ≡ k))
        → Among k (map (λ (r : Row). r.rowid) (if passes then row ∷ filter test rows else filter test rows)) → (r : Row) × Among r (row ∷ rows) × (test r ≡ true) × (r.rowid ≡ k)
    by_test true is rest (inl same) = (row, inl refl, is, sym same)
    by_test true is rest (inr later) = let found = rest later in (found.0, inr found.1, found.2, found.3)
    by_test false is rest later = let found = rest later in (found.0, inr found.1, found.2, found.3)

pub passed : (test : Row → Bool) (rows : List Row) (row : Row) → Among row rows → test row ≡ true → Among row.rowid (map (λ (r : Row). r.rowid) (filter test rows))
passed test [] row among is = absurd among
passed test (r ∷ rows) row among is = by_test (test r) refl (λ later. passed test rows row later is) among
  where
    by_test : (passes : Bool) → test r ≡ passes → (Among row rows → Among row.rowid (map (λ (x : Row). x.rowid) (filter test rows)))
        → Among row (r ∷ rows) → Among row.rowid (map (λ (x : Row). x.rowid) (if passes then r ∷ filter test rows else filter test rows))
    by_test true same rest (inl here) = inl (ap (λ (x : Row). x.rowid) here)
    by_test true same rest (inr later) = inr (rest later)
    by_test false same rest (inl here) = absurd (true≢false (sym (subst (λ x. test x ≡ true) here is) ∙ same))
    by_test false same rest (inr later) = rest later

-- the rowids that pass ascend
pub passing_ordered : (test : Row → Bool) (rows : List Row) → Ordered (λ (x y : Row). x.rowid <ℤ y.rowid) rows → Ordered (λ (m n : ℤ). m <ℤ n) (map (λ (row : Row). row.rowid) (filter test rows))
passing_ordered test [] order = tt
passing_ordered test (row ∷ rows) order = by_test (test row) refl (passing_ordered test rows order.1)
  where
    above : (k : ℤ) → Among k (map (λ (r : Row). r.rowid) (filter test rows)) → row.rowid <ℤ k
    above k among = let found = passing test rows k among in subst (λ n. row.rowid <ℤ n) found.3 (all_among (λ (r : Row). row.rowid <ℤ r.rowid) found.0 rows order.0 found.1)

    by_test : (passes : Bool) → test row ≡ passes → Ordered (λ (m n : ℤ). m <ℤ n) (map (λ (r : Row). r.rowid) (filter test rows))
        → Ordered (λ (m n : ℤ). m <ℤ n) (map (λ (r : Row). r.rowid) (if passes then row ∷ filter test rows else filter test rows))
    by_test true is rest = (all_from (λ n. row.rowid <ℤ n) (map (λ (r : Row). r.rowid) (filter test rows)) above, rest)
    by_test false is rest = rest
