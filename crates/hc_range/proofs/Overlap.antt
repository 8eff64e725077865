-- Two ranges that overlap, worked out by hand.
use Rattle.std.proofs.Common.{◌≡◌, ◌⊎◌, ◌↔◌, inl, inr, ⊎_elim, refl, sym, subst, ℕ, true, false, List, [], ◌∷◌}
use Rattle.std.proofs.lemmas.Bool.{true≢false, cases_Bool}
use Rattle.hc_range.specs.Examples.{OverlapIsOneRange, bytes_from}
use Rattle.hc_range.specs.Order.{is_below}
use Rattle.hc_range.specs.Ranges.{InAny, InRange, IsNormal}
use Rattle.hc_range.specs.declared.range.Range.{Range}
use Rattle.hc_range.proofs.ByteOrder.{at_most_trans, below_trans}
use Rattle.hc_range.proofs.Unique.{normal_form_unique}

-- of the keys a, b, c and d: b is not below a, c is not below b, and c is below d
b_is_not_below_a : is_below (98 ∷ []) (97 ∷ []) ≡ false
unfolding is_below
b_is_not_below_a = refl

c_is_not_below_b : is_below (99 ∷ []) (98 ∷ []) ≡ false
unfolding is_below
c_is_not_below_b = refl

c_is_below_d : is_below (99 ∷ []) (100 ∷ []) ≡ true
unfolding is_below
c_is_below_d = refl

-- the one range from a to d is normal, and holds c but not d
normal : IsNormal (bytes_from 97 100 ∷ [])
unfolding is_below
normal = (refl, tt, tt)

covered : InAny (bytes_from 97 100 ∷ []) (99 ∷ [])
unfolding is_below
covered = inl (refl, refl)

uncovered : InAny (bytes_from 97 100 ∷ []) (100 ∷ []) → ⊥
unfolding is_below
uncovered (inl inside) = true≢false (sym inside.1)
uncovered (inr none) = none

-- the keys of the one range are those of the two
same_keys : (key : List ℕ) → InAny (bytes_from 97 100 ∷ []) key ↔ (InRange (bytes_from 97 99) key ⊎ InRange (bytes_from 98 100) key)
same_keys key = (
  λ there. ⊎_elim
      (λ inside. ⊎_elim
      (λ below. inl (inside.0, below))
      (λ at_least. inr (at_most_trans (98 ∷ []) (99 ∷ []) key c_is_not_below_b at_least, inside.1))
      (cases_Bool (is_below key (99 ∷ []))))
      (λ none. absurd none) there,
  λ either. ⊎_elim
      (λ first. inl (first.0, below_trans key (99 ∷ []) (100 ∷ []) first.1 c_is_below_d))
      (λ second. inl (at_most_trans (97 ∷ []) (98 ∷ []) key b_is_not_below_a second.0, second.1)) either,
)

-- the ranges from a to c and from b to d are the one from a to d
pub overlap_is : OverlapIsOneRange
overlap_is = record {
  one = λ log. (
    λ both. normal_form_unique log (bytes_from 97 100 ∷ []) both.0 normal
        (λ key. (λ there. (same_keys key).1 ((both.1 key).0 there), λ there. (both.1 key).1 ((same_keys key).0 there))),
    λ is. subst
        (λ (ranges : List Range). IsNormal ranges × ((key : List ℕ) → InAny ranges key ↔ (InRange (bytes_from 97 99) key ⊎ InRange (bytes_from 98 100) key)))
        (sym is) (normal, same_keys),
  );
  covered = covered;
  uncovered = uncovered;
}
