-- Lists of ranges in normal form.
use Rattle.std.proofs.Common.{◌≡◌, ℕ, ◌<◌, ◌≤◌, true, false, List, [], ◌∷◌, ◌++◌, length, get_or, take, drop, sym, ◌∙◌, subst, ◌⊎◌, inl, inr, zero, suc, arith}
use Rattle.std.proofs.lemmas.Bool.{true≢false}
use Rattle.std.proofs.lemmas.List.{take-append-drop}
use Rattle.std.specs.List.{AllWithin}
use Rattle.hc_range.specs.Order.{is_below}
use Rattle.hc_range.specs.Ranges.{is_under, InRange, InAny, IsNonEmpty, EndsBelow, EndsBelowEach, IsNormal}
use Rattle.hc_range.specs.declared.range.Range.{Range}
use Rattle.hc_range.proofs.ByteOrder.{below_irrefl, below_flip, at_most_trans}
use Rattle.hc_range.proofs.Ends.{under_down, under_end, begins_below}

-- P holds of each range
abbrev pub Each : (Range → Type 0) → List Range → Type 0
Each P [] = Unit {0}
Each P (range ∷ ranges) = P range × Each P ranges

-- each of the one list ends below where each of the other begins
abbrev pub Apart : List Range → List Range → Type 0
Apart ranges others = Each (λ range. EndsBelowEach range others) ranges

-- what holds at each place up to i holds of each of the first i ranges
pub Each-take : (P : Range → Type 0) (i : ℕ) (ranges : List Range) → i ≤ length ranges → AllWithin P ranges 0 i → Each P (take i ranges)
Each-take P zero ranges le h = tt
Each-take P (suc i) [] le h = tt
Each-take P (suc i) (range ∷ ranges) le h =
    (h 0 range (omega arith) (omega arith), Each-take P i ranges (omega arith) (λ k d low high. h (suc k) d (omega arith) (omega arith)))

-- what holds at each place from i on holds of each range after the first i
pub Each-drop : (P : Range → Type 0) (i : ℕ) (ranges : List Range) → AllWithin P ranges i (length ranges) → Each P (drop i ranges)
Each-drop P zero [] h = tt
Each-drop P zero (range ∷ ranges) h =
    (h 0 range (omega arith) (omega arith), Each-drop P zero ranges (λ k d low high. h (suc k) d (omega arith) (omega arith)))
Each-drop P (suc i) [] h = tt
Each-drop P (suc i) (range ∷ ranges) h = Each-drop P i ranges (λ k d low high. h (suc k) d (omega arith) (omega arith))

-- a range that ends below each of a list ends below each of its front
EndsBelowEach-front : (range : Range) (front back : List Range) → EndsBelowEach range (front ++ back) → EndsBelowEach range front
EndsBelowEach-front range [] back h = tt
EndsBelowEach-front range (other ∷ front) back h = (h.0, EndsBelowEach-front range front back h.1)

-- and below each of its back
pub EndsBelowEach-back : (range : Range) (front back : List Range) → EndsBelowEach range (front ++ back) → EndsBelowEach range back
EndsBelowEach-back range [] back h = h
EndsBelowEach-back range (other ∷ front) back h = EndsBelowEach-back range front back h.1

-- a range that ends below each of two lists ends below each of the two in a row
EndsBelowEach-append : (range : Range) (front back : List Range) → EndsBelowEach range front → EndsBelowEach range back → EndsBelowEach range (front ++ back)
EndsBelowEach-append range [] back h g = g
EndsBelowEach-append range (other ∷ front) back h g = (h.0, EndsBelowEach-append range front back h.1 g)

-- the front of a normal list is normal
pub IsNormal-front : (front back : List Range) → IsNormal (front ++ back) → IsNormal front
IsNormal-front [] back h = tt
IsNormal-front (range ∷ front) back h = (h.0, EndsBelowEach-front range front back h.1, IsNormal-front front back h.2)

-- the back of a normal list is normal
pub IsNormal-back : (front back : List Range) → IsNormal (front ++ back) → IsNormal back
IsNormal-back [] back h = h
IsNormal-back (range ∷ front) back h = IsNormal-back front back h.2

-- a normal list without its first n ranges is normal
pub IsNormal-drop : (n : ℕ) (ranges : List Range) → IsNormal ranges → IsNormal (drop n ranges)
IsNormal-drop n ranges normal = IsNormal-back (take n ranges) (drop n ranges) (subst IsNormal (sym (take-append-drop n ranges)) normal)

-- in a normal list the front ends below the back
pub Apart-from_normal : (front back : List Range) → IsNormal (front ++ back) → Apart front back
Apart-from_normal [] back h = tt
Apart-from_normal (range ∷ front) back h = (EndsBelowEach-back range front back h.1, Apart-from_normal front back h.2)

-- two normal lists of which the first ends below the second are normal in a row
pub IsNormal-append : (front back : List Range) → IsNormal front → IsNormal back → Apart front back → IsNormal (front ++ back)
IsNormal-append [] back h g apart = g
IsNormal-append (range ∷ front) back h g apart =
    (h.0, EndsBelowEach-append range front back h.1 apart.0, IsNormal-append front back h.2 g apart.1)

-- a key that lies in two lists in a row lies in the one or in the other
pub InAny-cases : (front back : List Range) (key : List ℕ) → InAny (front ++ back) key → InAny front key ⊎ InAny back key
InAny-cases [] back key h = inr h
InAny-cases (range ∷ front) back key (inl h) = inl (inl h)
InAny-cases (range ∷ front) back key (inr h) =
    elim (InAny-cases front back key h) [ inl g ↦ inl (inr g) | inr g ↦ inr g ]

-- a key that lies in one of two lists lies in the two in a row
pub InAny-left : (front back : List Range) (key : List ℕ) → InAny front key → InAny (front ++ back) key
InAny-left [] back key h = elim h [ ]
InAny-left (range ∷ front) back key (inl h) = inl h
InAny-left (range ∷ front) back key (inr h) = inr (InAny-left front back key h)

pub InAny-right : (front back : List Range) (key : List ℕ) → InAny back key → InAny (front ++ back) key
InAny-right [] back key h = h
InAny-right (range ∷ front) back key h = inr (InAny-right front back key h)

-- no range of a normal list is empty
pub holds_at : (ranges : List Range) → IsNormal ranges → (i : ℕ) (d : Range) → i < length ranges → IsNonEmpty (get_or ranges i d)
holds_at [] h i d lt = absurd (omega arith)
holds_at (range ∷ ranges) h zero d lt = h.0
holds_at (range ∷ ranges) h (suc i) d lt = holds_at ranges h.2 i d (omega arith)

-- a range that ends below each of a list ends below the one at each place
each_at : (range : Range) (ranges : List Range) → EndsBelowEach range ranges → (i : ℕ) (d : Range) → i < length ranges → EndsBelow range (get_or ranges i d)
each_at range [] h i d lt = absurd (omega arith)
each_at range (other ∷ ranges) h zero d lt = h.0
each_at range (other ∷ ranges) h (suc i) d lt = each_at range ranges h.1 i d (omega arith)

-- of two ranges the one that is earlier ends below where the other begins
pub ends_below_at : (ranges : List Range) → IsNormal ranges → (i j : ℕ) (d : Range) → i < j → j < length ranges → EndsBelow (get_or ranges i d) (get_or ranges j d)
ends_below_at [] h i j d lt within = absurd (omega arith)
ends_below_at (range ∷ ranges) h i zero d lt within = absurd (omega arith)
ends_below_at (range ∷ ranges) h zero (suc j) d lt within = each_at range ranges h.1 j d (omega arith)
ends_below_at (range ∷ ranges) h (suc i) (suc j) d lt within = ends_below_at ranges h.2 i j d (omega arith) (omega arith)

-- a key under a range's upper end lies in none of the later ranges
pub none_later : (range : Range) (ranges : List Range) (key : List ℕ) → is_under key range.hi ≡ true → EndsBelowEach range ranges → InAny ranges key → ⊥
none_later range [] key h g at = elim at [ ]
none_later range (other ∷ ranges) key h g (inl at) =
    true≢false (sym (under_end key other.lo range.hi h g.0) ∙ at.0)
none_later range (other ∷ ranges) key h g (inr at) = none_later range ranges key h g.1 at

-- the last of a list that begins with a range
abbrev pub last : Range → List Range → Range
last range [] = range
last range (other ∷ ranges) = last other ranges

-- a key of a list lies at or above where the first range begins, and under where the last one ends
pub within_ends : (range : Range) (ranges : List Range) (key : List ℕ) → IsNormal (range ∷ ranges) → InAny (range ∷ ranges) key
    → (is_below key range.lo ≡ false) × (is_under key (last range ranges).hi ≡ true)
within_ends range [] key h (inl at) = at
within_ends range [] key h (inr at) = elim at [ ]
within_ends range (other ∷ ranges) key h (inl at) =
    let next : (is_below other.lo other.lo ≡ false) × (is_under other.lo (last other ranges).hi ≡ true) =
    within_ends other ranges other.lo h.2 (inl (below_irrefl other.lo, h.2.0)) in
    (at.0, under_down key other.lo (last other ranges).hi (below_flip key other.lo (under_end key other.lo range.hi at.1 h.1.0)) next.1)
within_ends range (other ∷ ranges) key h (inr at) =
    let next : (is_below key other.lo ≡ false) × (is_under key (last other ranges).hi ≡ true) = within_ends other ranges key h.2 at in
    (at_most_trans range.lo other.lo key (below_flip range.lo other.lo (begins_below range other h.0 h.1.0)) next.0, next.1)

-- a key in the last range lies in the list
pub last_in : (range : Range) (ranges : List Range) (key : List ℕ) → InRange (last range ranges) key → InAny (range ∷ ranges) key
last_in range [] key h = inl h
last_in range (other ∷ ranges) key h = inr (last_in other ranges key h)
