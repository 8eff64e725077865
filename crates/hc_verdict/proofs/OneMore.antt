-- Loops over a list: what each element so far has, one more has, and at the end each.
use Rattle.std.proofs.Common.{◌≡◌, inl, inr, ⊎_elim, sym, subst, ap, ℕ, zero, suc, ◌+◌, ◌<◌, ◌≤◌, List, [], ◌∷◌, length, take, get_or, arith}
use Rattle.std.specs.Prelude.{All, Contains, Some, slice_get}
use Rattle.std.proofs.lemmas.List.{take_all}
use Rattle.std.proofs.lemmas.List.Elements.{All-more, All-contains}
use Rattle.hc_base.specs.Lookup.{Among}

module _ {X : Type 0} where
  -- an element is at a place, and what is at a place is an element
  pub place_of : (x : X) (xs : List X) → Among x xs → (k : ℕ) × (slice_get xs k ≡ Some x)
  place_of x [] there = absurd there
  place_of x (y ∷ xs) there = ⊎_elim (λ (here : x ≡ y). (0, ap Some (sym here))) (λ later. let found = place_of x xs later in (suc found.0, found.1)) there

  pub at_place : (x : X) (xs : List X) (k : ℕ) → slice_get xs k ≡ Some x → Among x xs
  at_place x [] k is = cc
  at_place x (y ∷ xs) zero is = inl cc
  at_place x (y ∷ xs) (suc k) is = inr (at_place x xs k is)

  pub is_there : (xs : List X) (i : ℕ) (x : X) → i < length xs → x ≡ get_or xs i x → Among x xs
  is_there [] i x within is = absurd (omega (arith, within))
  is_there (y ∷ xs) zero x within is = inl is
  is_there (y ∷ xs) (suc i) x within is = inr (is_there xs i x (omega (arith, within)) is)

  contained : (x : X) (xs : List X) → Among x xs → Contains xs x
  contained x [] there = absurd there
  contained x (y ∷ xs) there = ⊎_elim (λ (here : x ≡ y). (0, omega arith, sym here)) (λ later. let c = contained x xs later in (suc c.0, omega (arith, c.1), c.2)) there

module _ {X : Type 0} (P : X → Type 0) (xs : List X) (i : ℕ) where
  -- what each so far and the next one have, one more have
  pub one_more : (x : X) → i < length xs → x ≡ get_or xs i x → All P (take i xs) → P x → All P (take (i + 1) xs)
  one_more x within is so_far holds = All-more P xs i x within so_far (subst P is holds)

  -- where there are no more, each element has it
  pub each_of_all : length xs ≤ i → All P (take i xs) → (x : X) → Among x xs → P x
  each_of_all past so_far x among = All-contains P xs x (subst (All P) (take_all i xs past) so_far) (contained x xs among)
