-- Loops over a list: what each element so far has, one more has, and at the end each.
use Rattle.std.proofs.Common.{◌≡◌, ◌∙◌, ap, sym, subst, arith, ℕ, ◌+◌, ◌<◌, ◌≤◌, List, length, take, get_or, Some, ⊎_elim}
use Rattle.std.proofs.lemmas.Bool.{cases_lt}
use Rattle.std.specs.Prelude.{All, Contains, slice_get}
use Rattle.std.proofs.lemmas.List.{take_all}
use Rattle.std.proofs.lemmas.List.Elements.{All-more, All-contains}
use Rattle.std.proofs.lemmas.Option.{slice_get_within, get_or_from_slice_get}

module _ {X : Type 0} (P : X → Type 0) (xs : List X) (i : ℕ) where
  -- what each so far and the next one have, one more have
  pub one_more : (x : X) → i < length xs → x ≡ get_or xs i x → All P (take i xs) → P x → All P (take (i + 1) xs)
  one_more x within is so_far holds = All-more P xs i x within so_far (subst P is holds)

  -- where there are no more, each element has it
  pub each_of_all : length xs ≤ i → All P (take i xs) → (x : X) → Contains xs x → P x
  each_of_all past so_far x among = All-contains P xs x (subst (All P) (take_all i xs past) so_far) among

module _ {X : Type 0} (xs : List X) (i : ℕ) where
  -- what is at a place is an element
  pub is_there : (x : X) → i < length xs → x ≡ get_or xs i x → Contains xs x
  is_there x within is = (i, within, sym is)

  -- what a look-up finds is an element
  pub found_there : (x : X) → slice_get xs i ≡ Some x → Contains xs x
  found_there x is = (i, slice_get_within xs i x is, get_or_from_slice_get xs i x x is)

-- what holds at each place so far holds at one more
pub one_more_place : {X : Type 0} (P : ℕ → X → Type 0) (xs : List X) (i : ℕ) (x : X) → i < length xs → x ≡ get_or xs i x
    → ((k : ℕ) (y : X) → k < i → slice_get xs k ≡ Some y → P k y) → P i x → (k : ℕ) (y : X) → k < i + 1 → slice_get xs k ≡ Some y → P k y
one_more_place P xs i x within is so_far holds k y below at =
    ⊎_elim (λ earlier. so_far k y earlier at)
    (λ late.
    let here : k ≡ i = omega (arith, below, late) in
    let same : x ≡ y = is ∙ ap (λ n. get_or xs n x) (sym here) ∙ get_or_from_slice_get xs k y x at in
    subst (λ n. P n y) (sym here) (subst (P i) same holds))
    (cases_lt k i)
