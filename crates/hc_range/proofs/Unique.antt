-- A set of keys has one normal form.
use Rattle.std.proofs.Common.{◌≡◌, ℕ, true, false, List, [], ◌∷◌, Option, Some, None, refl, sym, ap, ◌∙◌, subst, ◌↔◌, inl, inr}
use Rattle.std.proofs.lemmas.Bool.{true≢false, false_from_ne_true}
use Rattle.hc_range.specs.Order.{is_below}
use Rattle.hc_range.specs.Ranges.{is_under, is_end_below, InAny, EndsBelowEach, IsNormal}
use Rattle.hc_range.specs.declared.range.Range.{Range}
use Rattle.hc_range.proofs.ByteOrder.{below_irrefl, below_flip, same_from_neither}
use Rattle.hc_range.proofs.Normal.{within_ends, none_later}

-- a list whose keys all lie in another does not begin before it
begins_no_earlier : (one other : Range) (ones others : List Range) → IsNormal (one ∷ ones) → IsNormal (other ∷ others)
    → ((key : List ℕ) → InAny (one ∷ ones) key → InAny (other ∷ others) key) → is_below one.lo other.lo ≡ false
begins_no_earlier one other ones others h g same = (within_ends other others one.lo g (same one.lo (inl (below_irrefl one.lo, h.0)))).0

-- the key at an upper end lies in no range of the list
pub end_is_out : (range : Range) (ranges : List Range) (end : List ℕ) → range.hi ≡ Some end → EndsBelowEach range ranges → InAny (range ∷ ranges) end → ⊥
end_is_out range ranges end is h (inl at) =
    true≢false (sym (subst (λ (e : Option (List ℕ)). is_under end e ≡ true) is at.1) ∙ below_irrefl end)
end_is_out range [] end is h (inr at) = elim at [ ]
end_is_out range (other ∷ ranges) end is h (inr (inl at)) =
    true≢false (sym (subst (λ (e : Option (List ℕ)). is_end_below e other.lo ≡ true) is h.0) ∙ at.0)
end_is_out range (other ∷ ranges) end is h (inr (inr at)) = end_is_out range ranges end is h.1 (inr at)

-- where all keys of one list lie in another that begins at the same key, it does not end later
ends_no_later : (one other : Range) (ones others : List Range) (end : List ℕ) → IsNormal (one ∷ ones) → IsNormal (other ∷ others)
    → one.lo ≡ other.lo → ((key : List ℕ) → InAny (one ∷ ones) key → InAny (other ∷ others) key)
    → other.hi ≡ Some end → is_under end one.hi ≡ true → ⊥
ends_no_later one other ones others end h g same_lo same is later =
    let above : is_below end one.lo ≡ false =
    below_flip one.lo end (subst (λ (lo : List ℕ). is_below lo end ≡ true) (sym same_lo)
    (subst (λ (hi : Option (List ℕ)). is_under other.lo hi ≡ true) is g.0)) in
    end_is_out other others end is g.1 (same end (inl (above, later)))

-- two upper ends are one where neither is under the other
same_ends : (a b : Option (List ℕ)) → ((end : List ℕ) → b ≡ Some end → is_under end a ≡ true → ⊥)
    → ((end : List ℕ) → a ≡ Some end → is_under end b ≡ true → ⊥) → a ≡ b
same_ends None None h g = refl
same_ends None (Some b) h g = absurd (h b refl refl)
same_ends (Some a) None h g = absurd (g a refl refl)
same_ends (Some a) (Some b) h g =
    ap (λ (end : List ℕ). Some end) (same_from_neither a b (false_from_ne_true _ (g a refl)) (false_from_ne_true _ (h b refl)))

-- the first ranges of two lists with the same keys are one range
same_first : (one other : Range) (ones others : List Range) → IsNormal (one ∷ ones) → IsNormal (other ∷ others)
    → ((key : List ℕ) → InAny (one ∷ ones) key → InAny (other ∷ others) key)
    → ((key : List ℕ) → InAny (other ∷ others) key → InAny (one ∷ ones) key) → one ≡ other
same_first one other ones others h g to from =
    let lo : one.lo ≡ other.lo = same_from_neither one.lo other.lo
    (begins_no_earlier one other ones others h g to) (begins_no_earlier other one others ones g h from) in
    let hi : one.hi ≡ other.hi = same_ends one.hi other.hi
    (λ end is later. ends_no_later one other ones others end h g lo to is later)
    (λ end is later. ends_no_later other one others ones end g h (sym lo) from is later) in
    λ i. record { lo = lo i; hi = hi i }

-- the keys of the later ranges of one list lie in the later ranges of the other
rest_in : (one other : Range) (ones others : List Range) (key : List ℕ) → one ≡ other → EndsBelowEach one ones
    → (InAny (one ∷ ones) key → InAny (other ∷ others) key) → InAny ones key → InAny others key
rest_in one other ones others key is apart to at =
    elim (to (inr at)) [
      | inl first ↦ absurd (none_later one ones key (subst (λ (range : Range). is_under key range.hi ≡ true) (sym is) first.1) apart at)
      | inr rest ↦ rest
    ]

-- two normal lists that hold the same keys are one list
pub normal_form_unique : (one other : List Range) → IsNormal one → IsNormal other
    → ((key : List ℕ) → InAny one key ↔ InAny other key) → one ≡ other
normal_form_unique [] [] h g same = refl
normal_form_unique [] (other ∷ others) h g same = elim ((same other.lo).1 (inl (below_irrefl other.lo, g.0))) [ ]
normal_form_unique (one ∷ ones) [] h g same = elim ((same one.lo).0 (inl (below_irrefl one.lo, h.0))) [ ]
normal_form_unique (one ∷ ones) (other ∷ others) h g same =
    let first : one ≡ other = same_first one other ones others h g (λ key. (same key).0) (λ key. (same key).1) in
    let rest : ones ≡ others = normal_form_unique ones others h.2 g.2 (λ key.
    (rest_in one other ones others key first h.1 (same key).0, rest_in other one others ones key (sym first) g.1 (same key).1)) in
    λ i. first i ∷ rest i
