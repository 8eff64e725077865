-- Counting: a list with an element for each number below n has n elements, and sums over kept elements.
use Rattle.std.proofs.Common.{◌≡◌, ◌⊎◌, ◌∙◌, inl, inr, ⊎_elim, refl, sym, ap, subst, ℕ, zero, suc, ◌+◌, ◌<◌, ◌≤◌, Bool, true, false, cond, List, [], ◌∷◌, ◌++◌, length, map, filter, arith}
use Rattle.std.specs.Prelude.{sum_by}
use Rattle.std.proofs.lemmas.List.Sums.{sum_by-cons}
use Rattle.hc_base.specs.Lookup.{Among}

module _ {A : Type 0} where
  -- a list without one of its elements
  pub record Without (z : A) (zs : List A) : Type 0 where
    pub rest : List A
    pub shorter : length zs ≡ suc (length rest)
    pub others : (y : A) → Among y zs → (y ≡ z) ⊎ Among y rest

  later_without : (z w : A) (zs : List A) → Without z zs → Without z (w ∷ zs)
  later_without z w zs taken = record {
    rest = w ∷ taken.rest;
    shorter = ap suc taken.shorter;
    others = λ y there. ⊎_elim
        (λ here. inr (inl here))
        (λ following. ⊎_elim (λ same. inl same) (λ other. inr (inr other)) (taken.others y following))
        there;
  }

  without_it : (z : A) (zs : List A) → Among z zs → Without z zs
  without_it z [] there = absurd there
  without_it z (w ∷ zs) there = ⊎_elim
      (λ here. record { rest = zs; shorter = refl; others = λ y y_there. ⊎_elim (λ y_here. inl (y_here ∙ sym here)) (λ following. inr following) y_there })
      (λ following. later_without z w zs (without_it z zs following))
      there

  -- a list with an element for each number below n, where no element is two numbers', has so many
  pub as_many : (R : A → ℕ → Type 0) → ((z : A) (j k : ℕ) → R z j → R z k → j ≡ k) → (n : ℕ) (zs : List A)
      → ((k : ℕ) → k < n → (z : A) × Among z zs × R z k) → n ≤ length zs
  as_many R one zero zs has = omega arith
  as_many R one (suc n) zs has =
      let last = has n (omega arith) in
      let taken = without_it last.0 zs last.1 in
      let fewer = as_many R one n taken.rest (λ k below.
      let found = has k (omega (arith, below)) in
      ⊎_elim
      (λ same. absurd (let e : k ≡ n = one last.0 k n (subst (λ (z : A). R z k) same found.2) last.2 in omega (arith, e, below)))
      (λ other. (found.0, other, found.2))
      (taken.others found.0 found.1)) in
      omega (arith, fewer, taken.shorter)

  -- what the elements that pass weigh, one by one
  abbrev pub weighed : (A → Bool) → (A → ℕ) → List A → ℕ
  weighed p f [] = 0
  weighed p f (x ∷ xs) = cond (p x) (f x) 0 + weighed p f xs

  pub weighed_is : (p : A → Bool) (f : A → ℕ) (xs : List A) → sum_by f (filter p xs) ≡ weighed p f xs
  weighed_is p f [] = refl
  weighed_is p f (x ∷ xs) =
      elim (p x) as (λ b. sum_by f (cond b (x ∷ filter p xs) (filter p xs)) ≡ cond b (f x) 0 + weighed p f xs) [
        | true ↦ sum_by-cons f x (filter p xs) ∙ ap (λ (n : ℕ). f x + n) (weighed_is p f xs)
        | false ↦ omega (arith, weighed_is p f xs)
      ]

  pub weighed_joined : (p : A → Bool) (f : A → ℕ) (xs ys : List A) → weighed p f (xs ++ ys) ≡ weighed p f xs + weighed p f ys
  weighed_joined p f [] ys = omega arith
  weighed_joined p f (x ∷ xs) ys = omega (arith, weighed_joined p f xs ys)

module _ {A B : Type 0} (p : B → Bool) (f : A → B) where
  pub filter_length : (xs : List A) → length (filter p (map f xs)) ≡ length (filter (λ x. p (f x)) xs)
  filter_length [] = refl
  filter_length (x ∷ xs) =
      elim (p (f x)) as (λ b. length (cond b (f x ∷ filter p (map f xs)) (filter p (map f xs))) ≡ length (cond b (x ∷ filter (λ y. p (f y)) xs) (filter (λ y. p (f y)) xs))) [
        | true ↦ ap suc (filter_length xs)
        | false ↦ filter_length xs
      ]

  pub map_joined : (xs ys : List A) → map f (xs ++ ys) ≡ map f xs ++ map f ys
  map_joined [] ys = refl
  map_joined (x ∷ xs) ys = ap (λ (l : List B). f x ∷ l) (map_joined xs ys)
