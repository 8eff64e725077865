-- Elements of lists by their places, and two elements swapped over the end of a front part.
use Rattle.std.proofs.Common.{◌≡◌, ◌∙◌, inl, inr, ⊎_elim, refl, sym, ap, subst, ℕ, zero, suc, ◌+◌, ◌<◌, ◌≤◌, List, [], ◌∷◌, ◌++◌, length, take, get_or, arith}
use Rattle.std.specs.Prelude.{slice_set, swap}
use Rattle.std.proofs.lemmas.Bool.{cases_lt}
use Rattle.std.proofs.lemmas.List.{take-set-le, take-set, take_more_set, length-set, length-take-le, set_past}
use Rattle.std.proofs.lemmas.List.Edits.{swap_is}
use Rattle.std.proofs.lemmas.List.Sorted.{Contains-permutation, IsPermutation-swap}
use Rattle.std.proofs.Math.Seq.{take-set-lt}
use Rattle.hc_base.specs.Lookup.{Among}

module _ {X : Type 0} where
  -- the element at a place is among the elements
  pub among_at : (xs : List X) (i : ℕ) (d : X) → i < length xs → Among (get_or xs i d) xs
  among_at [] i d within = absurd (omega (arith, within))
  among_at (x ∷ xs) zero d within = inl refl
  among_at (x ∷ xs) (suc i) d within = inr (among_at xs i d (omega (arith, within)))

  -- and what is among them has a place
  pub place_in : (x : X) (xs : List X) → Among x xs → (i : ℕ) × (i < length xs) × ((d : X) → get_or xs i d ≡ x)
  place_in x [] there = absurd there
  place_in x (y ∷ xs) there = elim there [
    | inl same ↦ (zero, omega arith, λ d. sym same)
    | inr rest ↦ let p = place_in x xs rest in (suc p.0, omega (arith, p.1), p.2)
  ]

  -- a swap leaves the elements
  pub among_swap : (xs : List X) (i j : ℕ) (x : X) → i < length xs → j < length xs → Among x xs → Among x (swap xs i j)
  among_swap xs i j x first second there =
      let p = place_in x xs there in
      let q = Contains-permutation xs (swap xs i j) x (IsPermutation-swap xs (swap xs i j) i j first second refl) (p.0, p.1, p.2 x) in
      subst (λ y. Among y (swap xs i j)) q.2 (among_at (swap xs i j) q.0 x q.1)

  -- the element at a place from the front's end on comes to the front's end
  pub front_more : (xs : List X) (i k : ℕ) (d : X) → k ≤ i → i < length xs → take (k + 1) (swap xs i k) ≡ take k xs ++ get_or xs i d ∷ []
  front_more xs i k d low within =
      ap (take (k + 1)) (sym (swap_is xs i k d within (omega (arith, low, within))))
      ∙ take_more_set (slice_set xs i (get_or xs k d)) k (get_or xs i d) (rw (length-set xs i (get_or xs k d)) (omega (arith, low, within)))
      ∙ ap (λ ys. ys ++ get_or xs i d ∷ []) (take-set-le k xs i (get_or xs k d) low)

  -- the front with an element set, also where the place is at its end
  take_set : (xs : List X) (i k : ℕ) (y : X) → i ≤ k → k ≤ length xs → take k (slice_set xs i y) ≡ slice_set (take k xs) i y
  take_set xs i k y low within =
      ⊎_elim (λ (below : i < k). take-set-lt k xs i y below)
      (λ (high : k ≤ i). take-set-le k xs i y high ∙ sym (set_past (take k xs) i y (rw (length-take-le k xs within) high)))
      (cases_lt i k)

  -- the element at a place of the front comes to its end, and the last one of the front comes to that place
  pub front_less : (xs : List X) (i k : ℕ) (d : X) → i ≤ k → k < length xs → take k (swap xs i k) ≡ slice_set (take k xs) i (get_or xs k d)
  front_less xs i k d low within =
      ap (take k) (sym (swap_is xs i k d (omega (arith, low, within)) within))
      ∙ take-set (slice_set xs i (get_or xs k d)) k (get_or xs i d)
      ∙ take_set xs i k (get_or xs k d) low (omega (arith, within))
