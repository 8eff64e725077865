-- Elements of joined lists, and of lists that a function goes over.
use Rattle.std.proofs.Common.{◌≡◌, ◌⊎◌, inl, inr, ⊎_elim, refl, List, [], ◌∷◌, ◌++◌, map}
use Rattle.hc_base.specs.Lookup.{Among}

module _ {A : Type 0} where
  pub among_front : (x : A) (xs ys : List A) → Among x xs → Among x (xs ++ ys)
  among_front x [] ys there = absurd there
  among_front x (y ∷ xs) ys there = ⊎_elim (λ here. inl here) (λ following. inr (among_front x xs ys following)) there

  pub among_back : (x : A) (xs ys : List A) → Among x ys → Among x (xs ++ ys)
  among_back x [] ys there = there
  among_back x (y ∷ xs) ys there = inr (among_back x xs ys there)

  pub among_either : (x : A) (xs ys : List A) → Among x (xs ++ ys) → Among x xs ⊎ Among x ys
  among_either x [] ys there = inr there
  among_either x (y ∷ xs) ys there = ⊎_elim
      (λ here. inl (inl here))
      (λ following. ⊎_elim (λ front. inl (inr front)) (λ back. inr back) (among_either x xs ys following))
      there

module _ {A B : Type 0} (f : A → B) where
  pub among_map : (x : A) (xs : List A) → Among x xs → Among (f x) (map f xs)
  among_map x [] there = absurd there
  among_map x (y ∷ xs) there = ⊎_elim (λ (here : x ≡ y). inl (λ i. f (here i))) (λ following. inr (among_map x xs following)) there

  pub among_mapped : (y : B) (xs : List A) → Among y (map f xs) → (x : A) × Among x xs × (y ≡ f x)
  among_mapped y [] there = absurd there
  among_mapped y (x ∷ xs) there = ⊎_elim
      (λ here. (x, inl refl, here))
      (λ following. let found = among_mapped y xs following in (found.0, inr found.1, found.2))
      there
