-- The map's look-up and insertion are those of the db whose rows it keeps.
use Rattle.std.proofs.Common.{◌≡◌, ◌∙◌, ap, subst, ℤ, Bool, true, false, cond, [], ◌∷◌, map, Some, None, Ordering, Less, Equal, Greater, refl}
use Rattle.std.specs.Prelude.{filter, int_lt, option_to_list}
use Rattle.std.specs.Ordering.{int_cmp, int_eq, is_eq, ordering_reverse, match_ordering}
use Rattle.std.specs.List.{AllByRecursion}
use Rattle.std.specs.List.Sorted.{IsStrictlySortedBy}
use Rattle.std.specs.Cmp.{int_cmp_total, int_eq_equiv, signed_Decides}
use Rattle.std.specs.BTreeMap.{insert_entry, is_at}
use Rattle.std.specs.Map.{lookup, keys_of}
use Rattle.std.proofs.lemmas.Map.Keys.{sorted_head, sorted_tail}
use Rattle.hc_meaning.specs.Database.{Db, value_at, rows_at, with_row}

-- what an answer of the comparison says of the tests
below : (x y : ℤ) → int_cmp x y ≡ Less → int_lt x y ≡ true
below x y is = by_test (int_lt x y) (int_lt y x) refl is
  where
    by_test : (b d : Bool) → int_lt x y ≡ b → cond b Less (cond d Greater Equal) ≡ Less → int_lt x y ≡ true
    by_test true d e is = e
    by_test false true e is = cc
    by_test false false e is = cc

-- the same of an answer that one is greater
not_below : (x y : ℤ) → int_cmp x y ≡ Greater → int_lt x y ≡ false
not_below x y is = by_test (int_lt x y) (int_lt y x) refl is
  where
    by_test : (b d : Bool) → int_lt x y ≡ b → cond b Less (cond d Greater Equal) ≡ Greater → int_lt x y ≡ false
    by_test true d e is = cc
    by_test false d e is = e

-- compared the other way round, the answer is the other way round
flipped : (x y : ℤ) (r : Ordering) → int_cmp x y ≡ r → int_cmp y x ≡ ordering_reverse r
flipped x y r is = int_cmp_total.antisymm y x ∙ ap ordering_reverse is

-- the map's look-up of an id finds its value in the db
pub lookup-is-value_at : (rows : Db) (id : ℤ) → lookup (is_at (int_cmp id)) rows ≡ value_at rows id
lookup-is-value_at [] id = refl
lookup-is-value_at (row ∷ rows) id = rw (int_eq_equiv.symm row.0 id, lookup-is-value_at rows id)

-- the same, by another name of the id
pub lookup-at : (rows : Db) (id key : ℤ) → key ≡ id → lookup (is_at (int_cmp key)) rows ≡ value_at rows id
lookup-at rows id key same = ap (λ (k : ℤ). lookup (is_at (int_cmp k)) rows) same ∙ lookup-is-value_at rows id

-- above an id there is no row below it, and all rows are above it
above : (rows : Db) (id first : ℤ) → int_cmp id first ≡ Less → AllByRecursion (λ key. int_cmp first key ≡ Less) (keys_of rows)
    → (filter (λ row. int_lt row.0 id) rows ≡ []) × (filter (λ row. int_lt id row.0) rows ≡ rows)
above [] id first less others = (refl, refl)
above (row ∷ rows) id first less others =
    let lower : int_cmp id row.0 ≡ Less = int_cmp_total.trans id first row.0 less others.0 in
    let rest = above rows id first less others.1 in
    let yes : int_lt id row.0 ≡ true = below id row.0 lower in
    let no : int_lt row.0 id ≡ false = not_below row.0 id (flipped id row.0 Less lower) in
    (rw no rest.0, rw yes (ap (λ (l : Db). row ∷ l) rest.1))

-- the map's insertion of a free id is the db with that row
pub insert_entry-is-with_row : (rows : Db) (id v : ℤ) → IsStrictlySortedBy int_cmp (keys_of rows) → value_at rows id ≡ None → insert_entry int_cmp rows id v ≡ with_row rows id v
insert_entry-is-with_row [] id v sorted free = refl
insert_entry-is-with_row (row ∷ rows) id v sorted free =
    by_rank (int_cmp id row.0) refl (λ later. insert_entry-is-with_row rows id v (sorted_tail int_cmp row.0 (keys_of rows) sorted) later)
  where
    by_rank : (r : Ordering) → int_cmp id row.0 ≡ r → (value_at rows id ≡ None → insert_entry int_cmp rows id v ≡ with_row rows id v)
        → match_ordering r ((id, v) ∷ row ∷ rows) ((row.0, v) ∷ rows) (row ∷ insert_entry int_cmp rows id v) ≡ with_row (row ∷ rows) id v
    by_rank Less is later =
        let rest = above rows id row.0 is (sorted_head int_cmp row.0 (keys_of rows) sorted) in
        let yes : int_lt id row.0 ≡ true = below id row.0 is in
        let no : int_lt row.0 id ≡ false = not_below row.0 id (flipped id row.0 Less is) in
        rw (no, yes, rest.0, rest.1)
    by_rank Equal is later =
        let same : int_eq row.0 id ≡ true = ap is_eq (flipped id row.0 Equal is) in
        let found : value_at (row ∷ rows) id ≡ Some row.1 = rw same in
        cc
    by_rank Greater is later =
        let yes : int_lt row.0 id ≡ true = below row.0 id (flipped id row.0 Greater is) in
        let no : int_lt id row.0 ≡ false = not_below id row.0 is in
        let other : int_eq row.0 id ≡ false = ap is_eq (flipped id row.0 Greater is) in
        let free_later : value_at rows id ≡ None = rw other at free in
        rw (yes, no) (ap (λ (l : Db). row ∷ l) (later free_later))

-- no row above an id has it
none_above : (rows : Db) (id : ℤ) → AllByRecursion (λ key. int_cmp id key ≡ Less) (keys_of rows) → rows_at rows id ≡ []
none_above [] id others = refl
none_above (row ∷ rows) id others =
    let other : int_eq row.0 id ≡ false = ap is_eq (flipped id row.0 Less others.0) in
    rw other (none_above rows id others.1)

-- an id has one row or none
pub rows_at-is : (rows : Db) (id : ℤ) → IsStrictlySortedBy int_cmp (keys_of rows) → map (λ row. row.1) (rows_at rows id) ≡ option_to_list (value_at rows id)
rows_at-is [] id sorted = refl
rows_at-is (row ∷ rows) id sorted =
    by_test (int_eq row.0 id) refl (rows_at-is rows id (sorted_tail int_cmp row.0 (keys_of rows) sorted))
  where
    by_test : (b : Bool) → int_eq row.0 id ≡ b → map (λ row. row.1) (rows_at rows id) ≡ option_to_list (value_at rows id)
        → map (λ row. row.1) (cond b (row ∷ rows_at rows id) (rows_at rows id)) ≡ option_to_list (cond b (Some row.1) (value_at rows id))
    by_test true is later =
        let same : row.0 ≡ id = (signed_Decides row.0 id).0 is in
        let none : rows_at rows id ≡ [] = none_above rows id (subst (λ key. AllByRecursion (λ other. int_cmp key other ≡ Less) (keys_of rows)) same (sorted_head int_cmp row.0 (keys_of rows) sorted)) in
        ap (λ (l : Db). row.1 ∷ map (λ r. r.1) l) none
    by_test false is later = later
