-- The ends of ranges in byte order.
use Rattle.std.proofs.Common.{◌≡◌, ℕ, Bool, true, false, ◌&&◌, List, Option, Some, None, refl, sym, ap, ◌∙◌, ◌⊎◌, ◌↔◌, inl, inr}
use Rattle.std.proofs.lemmas.Bool.{true≢false, false≢true, and_from, and_parts, cond_both}
use Rattle.hc_range.specs.Order.{is_below, higher, lower}
use Rattle.hc_range.specs.Ranges.{is_under, is_end_below, later, InRange, IsNonEmpty, EndsBelow, Meet}
use Rattle.hc_range.specs.declared.range.Range.{Range}
use Rattle.hc_range.proofs.ByteOrder.{below_flip, below_trans, below_irrefl, at_most_below, below_at_most, at_most_trans}

-- what is below a key that is under an end is under it too
pub under_down : (key other : List ℕ) (end : Option (List ℕ)) → is_below other key ≡ false → is_under other end ≡ true → is_under key end ≡ true
under_down key other None low h = refl
under_down key other (Some end) low h = at_most_below key other end low h

-- a key under an end that is below another key is below that key
pub under_end : (key other : List ℕ) (end : Option (List ℕ)) → is_under key end ≡ true → is_end_below end other ≡ true → is_below key other ≡ true
under_end key other None h g = absurd (false≢true g)
under_end key other (Some end) h g = below_trans key end other h g

-- a key below another one that an end is not below is under the end
pub under_since_not_below : (key other : List ℕ) (end : Option (List ℕ)) → is_end_below end other ≡ false → is_below key other ≡ true → is_under key end ≡ true
under_since_not_below key other None h g = refl
under_since_not_below key other (Some end) h g = below_at_most key other end g h

-- a key that is not under an end is at or above all that the end is not below
pub above_since_not_under : (key other : List ℕ) (end : Option (List ℕ)) → is_under key end ≡ false → is_end_below end other ≡ false → is_below key other ≡ false
above_since_not_under key other None h g = absurd (true≢false h)
above_since_not_under key other (Some end) h g = at_most_trans other end key g h

-- an end is below what lies above a key that it is below
pub end_below_more : (end : Option (List ℕ)) (key other : List ℕ) → is_end_below end key ≡ true → is_below other key ≡ false → is_end_below end other ≡ true
end_below_more None key other h g = absurd (false≢true h)
end_below_more (Some end) key other h g = below_at_most end key other h g

-- the higher of two keys is at or above the one and the other
pub higher_left : (a b : List ℕ) → is_below (higher a b) a ≡ false
higher_left a b = cond_both (is_below a b) b a (λ (k : List ℕ). is_below k a ≡ false) (λ h. below_flip a b h) (λ h. below_irrefl a)

pub higher_right : (a b : List ℕ) → is_below (higher a b) b ≡ false
higher_right a b = cond_both (is_below a b) b a (λ (k : List ℕ). is_below k b ≡ false) (λ h. below_irrefl b) (λ h. h)

-- what is at or above two keys is at or above the higher
pub higher_least : (a b key : List ℕ) → is_below key a ≡ false → is_below key b ≡ false → is_below key (higher a b) ≡ false
higher_least a b key h g = cond_both (is_below a b) b a (λ (k : List ℕ). is_below key k ≡ false) (λ _. g) (λ _. h)

-- ranges meet where the higher of their lower ends is under both upper ends
Meet-from_higher : (a b : Range) → is_under (higher a.lo b.lo) a.hi ≡ true → is_under (higher a.lo b.lo) b.hi ≡ true → Meet a b
Meet-from_higher a b h g = (higher a.lo b.lo, (higher_left a.lo b.lo, h), (higher_right a.lo b.lo, g))

-- where ranges meet, the higher of their lower ends is under both upper ends
higher_from_Meet : (a b : Range) → Meet a b → (is_under (higher a.lo b.lo) a.hi ≡ true) × (is_under (higher a.lo b.lo) b.hi ≡ true)
higher_from_Meet a b meet =
    let least = higher_least a.lo b.lo meet.0 meet.1.0 meet.2.0 in
    (under_down _ meet.0 a.hi least meet.1.1, under_down _ meet.0 b.hi least meet.2.1)

-- where a key lies in both, the higher of the lower ends does
pub higher_in_both : (a b : Range) (key : List ℕ) → InRange a key → InRange b key → InRange a (higher a.lo b.lo) × InRange b (higher a.lo b.lo)
higher_in_both a b key h g =
    let under = higher_from_Meet a b (key, h, g) in
    ((higher_left a.lo b.lo, under.0), (higher_right a.lo b.lo, under.1))

-- ranges meet just where the first key that could lie in both is under both upper ends
pub Meet-iff_under : (a b : Range) (first : List ℕ) (both : Bool) → first ≡ higher a.lo b.lo
    → both ≡ (is_under first a.hi && is_under first b.hi) → (both ≡ true) ↔ Meet a b
Meet-iff_under a b first both is test =
    let at_both : both ≡ (is_under (higher a.lo b.lo) a.hi && is_under (higher a.lo b.lo) b.hi) =
    test ∙ ap (λ (key : List ℕ). is_under key a.hi && is_under key b.hi) is in (
      λ h.
          let parts = and_parts (is_under (higher a.lo b.lo) a.hi) (is_under (higher a.lo b.lo) b.hi) (sym at_both ∙ h) in
          Meet-from_higher a b parts.0 parts.1,
      λ meet.
          let under = higher_from_Meet a b meet in
          at_both ∙ and_from (is_under (higher a.lo b.lo) a.hi) (is_under (higher a.lo b.lo) b.hi) under.0 under.1,
    )

-- the lower of two keys is at or below the one and the other
pub lower_left : (a b : List ℕ) → is_below a (lower a b) ≡ false
lower_left a b = cond_both (is_below b a) b a (λ (k : List ℕ). is_below a k ≡ false) (λ h. below_flip b a h) (λ h. below_irrefl a)

pub lower_right : (a b : List ℕ) → is_below b (lower a b) ≡ false
lower_right a b = cond_both (is_below b a) b a (λ (k : List ℕ). is_below b k ≡ false) (λ h. below_irrefl b) (λ h. h)

-- what is at or above the lower of two keys is at or above one of them
pub lower_cases : (a b key : List ℕ) → is_below key (lower a b) ≡ false → (is_below key a ≡ false) ⊎ (is_below key b ≡ false)
lower_cases a b key = cond_both (is_below b a) b a
    (λ (k : List ℕ). is_below key k ≡ false → (is_below key a ≡ false) ⊎ (is_below key b ≡ false)) (λ _ h. inr h) (λ _ h. inl h)

-- an end that is below two keys is below the lower of them
pub end_below_lower : (end : Option (List ℕ)) (a b : List ℕ) → is_end_below end a ≡ true → is_end_below end b ≡ true → is_end_below end (lower a b) ≡ true
end_below_lower end a b h g = cond_both (is_below b a) b a (λ (k : List ℕ). is_end_below end k ≡ true) (λ _. g) (λ _. h)

-- what is under one of two ends is under the later of them
pub under_later_left : (key : List ℕ) (a b : Option (List ℕ)) → is_under key a ≡ true → is_under key (later a b) ≡ true
under_later_left key None b h = refl
under_later_left key (Some a) None h = refl
under_later_left key (Some a) (Some b) h = below_at_most key a (higher a b) h (higher_left a b)

pub under_later_right : (key : List ℕ) (a b : Option (List ℕ)) → is_under key b ≡ true → is_under key (later a b) ≡ true
under_later_right key None b h = refl
under_later_right key (Some a) None h = refl
under_later_right key (Some a) (Some b) h = below_at_most key b (higher a b) h (higher_right a b)

-- what is under the later of two ends is under one of them
pub under_later_cases : (key : List ℕ) (a b : Option (List ℕ)) → is_under key (later a b) ≡ true → (is_under key a ≡ true) ⊎ (is_under key b ≡ true)
under_later_cases key None b = λ h. inl refl
under_later_cases key (Some a) None = λ h. inr refl
under_later_cases key (Some a) (Some b) = cond_both (is_below a b) b a
    (λ (k : List ℕ). is_below key k ≡ true → (is_below key a ≡ true) ⊎ (is_below key b ≡ true)) (λ _ h. inr h) (λ _ h. inl h)

-- the later of two ends that are below a key is below it
pub later_end_below : (a b : Option (List ℕ)) (key : List ℕ) → is_end_below a key ≡ true → is_end_below b key ≡ true → is_end_below (later a b) key ≡ true
later_end_below None b key h g = absurd (false≢true h)
later_end_below (Some a) None key h g = absurd (false≢true g)
later_end_below (Some a) (Some b) key h g = cond_both (is_below a b) b a (λ (k : List ℕ). is_below k key ≡ true) (λ _. g) (λ _. h)

-- a range that holds a key is not empty
pub IsNonEmpty-since : (range : Range) (key : List ℕ) → InRange range key → IsNonEmpty range
IsNonEmpty-since range key h = under_down range.lo key range.hi h.0 h.1

-- a range that is not empty and ends below another begins below it
pub begins_below : (a b : Range) → IsNonEmpty a → EndsBelow a b → is_below a.lo b.lo ≡ true
begins_below a b h g = under_end a.lo b.lo a.hi h g

-- a range that ends below one that is not empty ends below what that one ends below
pub EndsBelow-trans : (a b c : Range) → EndsBelow a b → IsNonEmpty b → EndsBelow b c → EndsBelow a c
EndsBelow-trans a b c h holds g = end_below_more a.hi b.lo c.lo h (below_flip b.lo c.lo (begins_below b c holds g))
