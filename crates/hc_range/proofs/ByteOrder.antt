-- The order of byte strings is total, and what comes next after a key.
use Rattle.std.proofs.Common.{◌≡◌, ℕ, true, false, List, [], ◌∷◌, ◌++◌, refl, sym, ap, ◌∙◌, subst, ◌⊎◌, inl, inr, arith}
use Rattle.std.proofs.lemmas.Bool.{true≢false, false≢true, cases_Bool, cases_eq}
use Rattle.std.specs.Cmp.{nat_cmp_is}
use Rattle.std.proofs.lemmas.Cmp.{nat_list_cmp_total, nat_cmp_total, tied_itself}
use Rattle.std.specs.FinMap.{nat_cmp-IsAntisymmetric, slice_cmp-IsAntisymmetric}
use Rattle.std.specs.declared.cmp.Ordering.{Ordering}
use Rattle.std.specs.declared.cmp.Ordering.TheVariants.{Less, Equal, Greater}
use Rattle.std.specs.Ordering.{nat_cmp, is_lt, ordering_reverse, ordering_then}
use Rattle.std.specs.Cmp.Lexicographic.{slice_cmp}
use Rattle.hc_range.specs.Order.{is_below, successor}

-- the only answer that is less is `Less`
less_from_is_lt : (o : Ordering) → is_lt o ≡ true → o ≡ Less
less_from_is_lt Less h = refl
less_from_is_lt Equal h = absurd (false≢true h)
less_from_is_lt Greater h = absurd (false≢true h)

-- an answer that is less neither way round is `Equal`
equal_from_neither : (o : Ordering) → is_lt o ≡ false → is_lt (ordering_reverse o) ≡ false → o ≡ Equal
equal_from_neither Less h g = absurd (true≢false h)
equal_from_neither Equal h g = refl
equal_from_neither Greater h g = absurd (true≢false g)

-- no key comes before itself
pub below_irrefl : (a : List ℕ) → is_below a a ≡ false
unfolding is_below
below_irrefl a = ap is_lt (tied_itself nat_list_cmp_total a)

-- what comes before a key comes before all that this key comes before
pub below_trans : (a b c : List ℕ) → is_below a b ≡ true → is_below b c ≡ true → is_below a c ≡ true
unfolding is_below
below_trans a b c h g = ap is_lt (nat_list_cmp_total.trans a b c (less_from_is_lt _ h) (less_from_is_lt _ g))

-- of two keys at most one comes before the other
pub below_flip : (a b : List ℕ) → is_below a b ≡ true → is_below b a ≡ false
unfolding is_below
below_flip a b h = ap is_lt (nat_list_cmp_total.antisymm b a ∙ ap ordering_reverse (less_from_is_lt _ h))

-- where neither comes before the other they are one key
pub same_from_neither : (a b : List ℕ) → is_below a b ≡ false → is_below b a ≡ false → a ≡ b
unfolding is_below
same_from_neither a b h g =
    let back : is_lt (ordering_reverse (slice_cmp nat_cmp a b)) ≡ false = ap is_lt (sym (nat_list_cmp_total.antisymm b a)) ∙ g in
    slice_cmp-IsAntisymmetric nat_cmp-IsAntisymmetric a b (equal_from_neither _ h back)

-- a at most b, and b before c
pub at_most_below : (a b c : List ℕ) → is_below b a ≡ false → is_below b c ≡ true → is_below a c ≡ true
at_most_below a b c h g =
    elim (cases_Bool (is_below a b)) [
      | inl less ↦ below_trans a b c less g
      | inr other ↦ subst (λ (k : List ℕ). is_below k c ≡ true) (sym (same_from_neither a b other h)) g
    ]

-- a before b, and b at most c
pub below_at_most : (a b c : List ℕ) → is_below a b ≡ true → is_below c b ≡ false → is_below a c ≡ true
below_at_most a b c h g =
    elim (cases_Bool (is_below b c)) [
      | inl less ↦ below_trans a b c h less
      | inr other ↦ subst (λ (k : List ℕ). is_below a k ≡ true) (same_from_neither b c other g) h
    ]

-- a at most b, and b at most c
pub at_most_trans : (a b c : List ℕ) → is_below b a ≡ false → is_below c b ≡ false → is_below c a ≡ false
at_most_trans a b c h g =
    elim (cases_Bool (is_below c a)) [
      | inl less ↦ absurd (true≢false (sym (below_at_most c a b less h) ∙ g))
      | inr other ↦ other
    ]

-- what is at most a key comes before it or is that key
pub at_most_cases : (a b : List ℕ) → is_below b a ≡ false → (is_below a b ≡ true) ⊎ (a ≡ b)
at_most_cases a b h =
    elim (cases_Bool (is_below a b)) [ inl less ↦ inl less | inr g ↦ inr (same_from_neither a b g h) ]

-- what comes before a key, or is that key, is at most the key
pub at_most_from : (a b : List ℕ) → (is_below a b ≡ true) ⊎ (a ≡ b) → is_below b a ≡ false
at_most_from a b (inl h) = below_flip a b h
at_most_from a b (inr h) = subst (λ (k : List ℕ). is_below k a ≡ false) h (below_irrefl a)

-- of two keys one comes before the other, or they are one key
pub order_total : (a b : List ℕ) → (is_below a b ≡ true) ⊎ (a ≡ b) ⊎ (is_below b a ≡ true)
order_total a b =
    elim (cases_Bool (is_below a b)) [
      | inl less ↦ inl less
      | inr h ↦ elim (cases_Bool (is_below b a)) [
        | inl more ↦ inr (inr more)
        | inr g ↦ inr (inl (same_from_neither a b h g))
      ]
    ]

-- nothing comes before the empty key
pub empty_least : (key : List ℕ) → is_below key [] ≡ false
unfolding is_below
empty_least [] = refl
empty_least (x ∷ xs) = refl

-- a key comes before each longer one that begins with it
pub prefix_below : (key more : List ℕ) (byte : ℕ) → is_below key (key ++ byte ∷ more) ≡ true
unfolding is_below
prefix_below [] more byte = refl
prefix_below (x ∷ xs) more byte =
    ap (λ (o : Ordering). is_lt (ordering_then o (slice_cmp nat_cmp xs (xs ++ byte ∷ more)))) (tied_itself nat_cmp_total x)
    ∙ prefix_below xs more byte

-- where a comparison is less, the one the other way round is not
nothing_between : (o : Ordering) (rest back : Ordering) → is_lt (ordering_then o rest) ≡ true
    → (is_lt rest ≡ true → is_lt back ≡ false) → is_lt (ordering_then (ordering_reverse o) back) ≡ false
nothing_between Less rest back h more = refl
nothing_between Equal rest back h more = more h
nothing_between Greater rest back h more = absurd (false≢true h)

-- no byte is less than zero: where the rest is not less either, the whole is not
not_below_zero : (y : ℕ) (rest : Ordering) → is_lt rest ≡ false → is_lt (ordering_then (nat_cmp y 0) rest) ≡ false
not_below_zero y rest h =
    elim (cases_eq y 0) [
      | inl none ↦ subst (λ (n : ℕ). is_lt (ordering_then (nat_cmp n 0) rest) ≡ false) (sym none) h
      | inr some ↦ ap (λ (o : Ordering). is_lt (ordering_then o rest)) (sym (nat_cmp_is y 0 Greater (omega arith)))
    ]

-- what a key comes before is not below the key's successor
above_next : (key other : List ℕ) → is_below key other ≡ true → is_below other (successor key) ≡ false
unfolding is_below
above_next [] [] h = absurd (false≢true h)
above_next [] (y ∷ ys) h = not_below_zero y (slice_cmp nat_cmp ys []) (empty_least ys)
above_next (x ∷ xs) [] h = absurd (false≢true h)
above_next (x ∷ xs) (y ∷ ys) h =
    ap (λ (o : Ordering). is_lt (ordering_then o (slice_cmp nat_cmp ys (xs ++ 0 ∷ [])))) (nat_cmp_total.antisymm y x)
    ∙ nothing_between (nat_cmp x y) (slice_cmp nat_cmp xs ys) (slice_cmp nat_cmp ys (xs ++ 0 ∷ [])) h (above_next xs ys)

-- what comes before a key's successor is at most the key
pub successor_next : (key other : List ℕ) → is_below other (successor key) ≡ true → is_below key other ≡ false
successor_next key other h =
    elim (cases_Bool (is_below key other)) [
      | inl less ↦ absurd (true≢false (sym h ∙ above_next key other less))
      | inr at_most ↦ at_most
    ]

-- what is at most a key comes before its successor
pub successor_above : (key other : List ℕ) → is_below key other ≡ false → is_below other (successor key) ≡ true
successor_above key other h = at_most_below other key (successor key) h (prefix_below key [] 0)
