-- Elements of lists that grow at the end or are filtered.
use Rattle.std.proofs.Common.{◌≡◌, Bool, true, false, List, [], ◌∷◌, ◌++◌, ◌⊎◌, ◌↔◌, refl, sym, ◌∙◌, ap, inl, inr, filter, cond}
use Rattle.hc_base.specs.Lookup.{Among}

module _ {A : Type 0} where
  -- an element of a longer list is the new one or an older one
  pub among_push : (x y : A) (xs : List A) → Among x (xs ++ y ∷ []) ↔ ((x ≡ y) ⊎ Among x xs)
  among_push x y [] = (λ h. h, λ h. h)
  among_push x y (z ∷ xs) =
      let rest = among_push x y xs in (
        λ h. elim h [ inl e ↦ inr (inl e) | inr a ↦ elim (rest.0 a) [ inl e ↦ inl e | inr b ↦ inr (inr b) ] ],
        λ h. elim h [ inl e ↦ inr (rest.1 (inl e)) | inr a ↦ elim a [ inl e ↦ inl e | inr b ↦ inr (rest.1 (inr b)) ] ],
      )

  -- what a filter keeps: one test of the first element, and the rest
  filtered_first : (p : A → Bool) (x y : A) (xs : List A) (b : Bool) → b ≡ p y
      → (Among x (filter p xs) ↔ (Among x xs × (p x ≡ true)))
      → Among x (cond b (y ∷ filter p xs) (filter p xs)) ↔ (((x ≡ y) ⊎ Among x xs) × (p x ≡ true))
  filtered_first p x y xs true e rest = (
    λ h. elim h [ inl s ↦ (inl s, ap p s ∙ sym e) | inr a ↦ (inr (rest.0 a).0, (rest.0 a).1) ],
    λ h. elim (h.0) [ inl s ↦ inl s | inr a ↦ inr (rest.1 (a, h.1)) ],
  )
  filtered_first p x y xs false e rest = (
    λ a. (inr (rest.0 a).0, (rest.0 a).1),
    λ h. elim (h.0) [ inl s ↦ absurd (let f : false ≡ true = e ∙ sym (ap p s) ∙ h.1 in cc) | inr a ↦ rest.1 (a, h.1) ],
  )

  -- an element that a filter keeps is an element that passes
  pub among_filter : (p : A → Bool) (x : A) (xs : List A) → Among x (filter p xs) ↔ (Among x xs × (p x ≡ true))
  among_filter p x [] = (λ h. absurd h, λ h. absurd (h.0))
  among_filter p x (y ∷ xs) = filtered_first p x y xs (p y) refl (among_filter p x xs)
