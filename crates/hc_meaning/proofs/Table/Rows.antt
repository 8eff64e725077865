-- What the db has at each id after an INSERT, and that its ids still ascend.
use Rattle.std.proofs.Common.{◌≡◌, ◌∙◌, ap, append_assoc, refl, sym, subst, cond, Bool, true, false, ℤ, Option, Some, None, List, [], ◌∷◌, ◌++◌, map, arith}
use Rattle.std.specs.Prelude.{if◌then◌else◌, filter, int_lt}
use Rattle.std.specs.List.{AllByRecursion}
use Rattle.std.specs.List.Sorted.{IsStrictlySortedBy}
use Rattle.std.specs.Ordering.{int_eq, int_cmp, is_eq}
use Rattle.std.specs.declared.cmp.Ordering.TheVariants.{Less, Equal, Greater}
use Rattle.std.proofs.lemmas.Bool.{false≢true}
use Rattle.std.proofs.lemmas.Bool.Decides.{Decides-int_eq}
use Rattle.std.proofs.lemmas.Cmp.{int_cmp_total}
use Rattle.std.proofs.lemmas.List.{map-append}
use Rattle.std.proofs.lemmas.List.Kept.{IsStrictlySortedBy-filter}
use Rattle.hc_meaning.specs.Database.{Db, IsDb, value_at, with_row}
use Rattle.hc_meaning.proofs.EachElement.{all_joined}

-- the first value if there is one, else the second
abbrev pub or_else : Option ℤ → Option ℤ → Option ℤ
or_else None later = later
or_else (Some v) later = Some v

-- the first of two parts is looked through first
pub value_at-append : (front back : Db) (id : ℤ) → value_at (front ++ back) id ≡ or_else (value_at front id) (value_at back id)
value_at-append [] back id = refl
value_at-append (row ∷ front) back id =
    elim (int_eq row.0 id) as (λ b. cond b (Some row.1) (value_at (front ++ back) id) ≡ or_else (cond b (Some row.1) (value_at front id)) (value_at back id)) [ true ↦ refl | false ↦ value_at-append front back id ]

-- one row before the rest, which the filter keeps as it keeps the id that is looked up if that is the row's
value_at-kept : (keep here keeps_id : Bool) (row : ℤ × ℤ) (kept : Db) (there : Option ℤ) (id : ℤ) → int_eq row.0 id ≡ here → (here ≡ true → keep ≡ keeps_id) → value_at kept id ≡ cond keeps_id there None
    → value_at (cond keep (row ∷ kept) kept) id ≡ cond keeps_id (cond here (Some row.1) there) None
value_at-kept keep here keeps_id row kept there id is same rest = grind arith

-- A filter by a test of the id keeps what the db has at an id that passes, and nothing at another.
pub value_at-filter : (keeps : ℤ → Bool) (db : Db) (id : ℤ) → value_at (filter (λ row. keeps row.0) db) id ≡ (if keeps id then value_at db id else None)
value_at-filter keeps [] id = elim (keeps id) as (λ b. ◌≡◌ {A = Option ℤ} None (cond b None None)) [ true ↦ refl | false ↦ refl ]
value_at-filter keeps (row ∷ db) id =
    value_at-kept (keeps row.0) (int_eq row.0 id) (keeps id) row (filter (λ row. keeps row.0) db) (value_at db id) id refl (λ equal. ap keeps ((Decides-int_eq row.0 id).0 equal)) (value_at-filter keeps db id)

-- what with_row finds, in the order of its three parts: a row below, the new row, a row above
value_at-parts : (below above here : Bool) (v : ℤ) (there : Option ℤ) → (here ≡ true → below ≡ false) → (here ≡ false → below ≡ false → above ≡ true)
    → or_else (cond below there None) (cond here (Some v) (cond above there None)) ≡ cond here (Some v) there
value_at-parts below above here v there at_most at_least = grind arith

-- where two ids are equal neither is below the other, and else one is
not_below : (above below : Bool) → is_eq (cond above Less (cond below Greater Equal)) ≡ true → below ≡ false
not_below true below equal = absurd (false≢true equal)
not_below false true equal = absurd (false≢true equal)
not_below false false equal = refl

-- of two ids that differ, one that is not below the other is above it
above : (above below : Bool) → is_eq (cond above Less (cond below Greater Equal)) ≡ false → below ≡ false → above ≡ true
above true below differ under = refl
above false true differ under = sym under
above false false differ under = sym differ

-- An INSERT that is carried out changes the db at its id alone.
pub value_at-with_row : (db : Db) (id v other : ℤ) → value_at (with_row db id v) other ≡ (if int_eq id other then Some v else value_at db other)
value_at-with_row db id v other =
    value_at-append (filter (λ row. int_lt row.0 id) db) ((id, v) ∷ filter (λ row. int_lt id row.0) db) other
    ∙ ap (λ first. or_else first (value_at ((id, v) ∷ filter (λ row. int_lt id row.0) db) other)) (value_at-filter (λ k. int_lt k id) db other)
    ∙ ap (λ last. or_else (cond (int_lt other id) (value_at db other) None) (cond (int_eq id other) (Some v) last)) (value_at-filter (λ k. int_lt id k) db other)
    ∙ value_at-parts (int_lt other id) (int_lt id other) (int_eq id other) v (value_at db other) (not_below (int_lt id other) (int_lt other id)) (above (int_lt id other) (int_lt other id))

-- one id before the rest, if it passes
all_kept : (P : ℤ → Type 0) (keep : Bool) (x : ℤ) (kept : List ℤ) → (keep ≡ true → P x) → AllByRecursion P kept → AllByRecursion P (cond keep (x ∷ kept) kept)
all_kept P true x kept passes rest = (passes refl, rest)
all_kept P false x kept passes rest = rest

-- what each id that passes has, each id of the filter has
all_filter : (P : ℤ → Type 0) (test : ℤ → Bool) (xs : List ℤ) → ((x : ℤ) → test x ≡ true → P x) → AllByRecursion P (filter test xs)
all_filter P test [] each = tt
all_filter P test (x ∷ xs) each = all_kept P (test x) x (filter test xs) (each x) (all_filter P test xs each)

-- two ascending parts, each id of the first below each of the second
ascending_append : (xs ys : List ℤ) → IsStrictlySortedBy int_cmp xs → IsStrictlySortedBy int_cmp ys → AllByRecursion (λ x. AllByRecursion (λ y. int_cmp x y ≡ Less) ys) xs → IsStrictlySortedBy int_cmp (xs ++ ys)
unfolding IsStrictlySortedBy
ascending_append [] ys front back apart = back
ascending_append (x ∷ xs) ys front back apart = (all_joined (λ y. int_cmp x y ≡ Less) xs ys front.0 apart.0, ascending_append xs ys front.1 back apart.1)

-- the test and the comparison say the same
less : (x y : ℤ) → int_lt x y ≡ true → int_cmp x y ≡ Less
less x y lt = ap (λ b. cond b Less (cond (int_lt y x) Greater Equal)) lt

-- the ids below one, the id, and the ids above it
ascending_with : (ids : List ℤ) (id : ℤ) → IsStrictlySortedBy int_cmp ids → IsStrictlySortedBy int_cmp (filter (λ k. int_lt k id) ids ++ id ∷ filter (λ k. int_lt id k) ids)
unfolding IsStrictlySortedBy
ascending_with ids id ascending =
    let over : AllByRecursion (λ y. int_cmp id y ≡ Less) (filter (λ k. int_lt id k) ids) = all_filter (λ y. int_cmp id y ≡ Less) (λ k. int_lt id k) ids (less id) in
    let beyond : (x : ℤ) → int_cmp x id ≡ Less → AllByRecursion (λ y. int_cmp x y ≡ Less) (filter (λ k. int_lt id k) ids) =
    λ x under. all_filter (λ y. int_cmp x y ≡ Less) (λ k. int_lt id k) ids (λ y lt. int_cmp_total.trans x id y under (less id y lt)) in
    ascending_append (filter (λ k. int_lt k id) ids) (id ∷ filter (λ k. int_lt id k) ids)
    (IsStrictlySortedBy-filter int_cmp (λ k. int_lt k id) ids ascending)
    (over, IsStrictlySortedBy-filter int_cmp (λ k. int_lt id k) ids ascending)
    (all_filter (λ x. AllByRecursion (λ y. int_cmp x y ≡ Less) (id ∷ filter (λ k. int_lt id k) ids)) (λ k. int_lt k id) ids (λ x lt. (less x id lt, beyond x (less x id lt))))

-- a filter by the id gives rows whose ids are the filtered ids
ids_kept : (test : ℤ → Bool) (db : Db) → map (λ (row : ℤ × ℤ). row.0) (filter (λ row. test row.0) db) ≡ filter test (map (λ (row : ℤ × ℤ). row.0) db)
ids_kept test [] = refl
ids_kept test (row ∷ db) =
    elim (test row.0) as (λ b. map (λ (row : ℤ × ℤ). row.0) (cond b (row ∷ filter (λ row. test row.0) db) (filter (λ row. test row.0) db)) ≡ cond b (row.0 ∷ filter test (map (λ (row : ℤ × ℤ). row.0) db)) (filter test (map (λ (row : ℤ × ℤ). row.0) db)))
    [ true ↦ ap (λ ids. row.0 ∷ ids) (ids_kept test db) | false ↦ ids_kept test db ]

-- the ids after a row is put in its place
ids_with : (db : Db) (id v : ℤ) → map (λ (row : ℤ × ℤ). row.0) (with_row db id v) ≡ filter (λ k. int_lt k id) (map (λ (row : ℤ × ℤ). row.0) db) ++ id ∷ filter (λ k. int_lt id k) (map (λ (row : ℤ × ℤ). row.0) db)
ids_with db id v =
    map-append (λ (row : ℤ × ℤ). row.0) (filter (λ row. int_lt row.0 id) db) ((id, v) ∷ filter (λ row. int_lt id row.0) db)
    ∙ ap (λ front. front ++ id ∷ map (λ (row : ℤ × ℤ). row.0) (filter (λ row. int_lt id row.0) db)) (ids_kept (λ k. int_lt k id) db)
    ∙ ap (λ back. filter (λ k. int_lt k id) (map (λ (row : ℤ × ℤ). row.0) db) ++ id ∷ back) (ids_kept (λ k. int_lt id k) db)

-- so they still ascend
pub IsDb-with_row : (db : Db) (id v : ℤ) → IsDb db → IsDb (with_row db id v)
IsDb-with_row db id v ascending =
    let Ascends : List ℤ → Type 0 = λ ids. IsStrictlySortedBy int_cmp ids in
    subst Ascends (sym (ids_with db id v)) (ascending_with (map (λ (row : ℤ × ℤ). row.0) db) id ascending)

-- the rows below, one more row, and then the rows above
pub parts_joined : (new pushed front back below above : Db) (row : ℤ × ℤ) → new ≡ pushed ++ back → pushed ≡ front ++ row ∷ [] → front ≡ below → back ≡ above → new ≡ below ++ row ∷ above
parts_joined new pushed front back below above row joined with_one front_is back_is =
    joined
    ∙ ap (λ rows. rows ++ back) with_one
    ∙ append_assoc front (row ∷ []) back
    ∙ ap (λ rows. rows ++ row ∷ back) front_is
    ∙ ap (λ rows. below ++ row ∷ rows) back_is
