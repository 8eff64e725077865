-- Which element is at which place of a list that has grown by one element.
use Rattle.std.proofs.Common.{◌≡◌, ℕ, zero, suc, List, [], ◌∷◌, ◌++◌, length, Some, refl, ap, ◌⊎◌, inl, inr, ⊎_elim}
use Rattle.std.specs.List.{slice_get}

module _ {X : Type 0} where
  -- the new element is at the end, and each earlier one where it was
  pub slice_get-last : (xs : List X) (y : X) → slice_get (xs ++ y ∷ []) (length xs) ≡ Some y
  slice_get-last [] y = refl
  slice_get-last (x ∷ xs) y = slice_get-last xs y

  pub slice_get-earlier : (xs : List X) (y x : X) (k : ℕ) → slice_get xs k ≡ Some x → slice_get (xs ++ y ∷ []) k ≡ Some x
  slice_get-earlier [] y x k is = cc
  slice_get-earlier (z ∷ xs) y x zero is = is
  slice_get-earlier (z ∷ xs) y x (suc k) is = slice_get-earlier xs y x k is

  -- it is an earlier one, or the new one at the end
  pub slice_get-push_cases : (xs : List X) (y x : X) (k : ℕ) → slice_get (xs ++ y ∷ []) k ≡ Some x → (slice_get xs k ≡ Some x) ⊎ ((k ≡ length xs) × (y ≡ x))
  slice_get-push_cases [] y x zero is = inr (refl, cc)
  slice_get-push_cases [] y x (suc k) is = cc
  slice_get-push_cases (z ∷ xs) y x zero is = inl is
  slice_get-push_cases (z ∷ xs) y x (suc k) is = ⊎_elim (λ earlier. inl earlier) (λ new. inr (ap suc new.0, new.1)) (slice_get-push_cases xs y x k is)
