-- A normal list is cut in two by a key: the ranges before it, and the others.
use Rattle.std.proofs.Common.{◌≡◌, ℕ, ◌+◌, ◌<◌, ◌≤◌, Bool, true, false, not, List, [], ◌∷◌, length, get_or, take, drop, zero, suc, refl, sym, ap, ◌∙◌, subst, ◌↔◌, inl, inr, Option, Some, None, is_some, IfSome, IfNone, arith}
use Rattle.std.proofs.lemmas.Bool.{true≢false, false≢true, cases_eq, not-true, not-false, not_from_false, false_from_ne_true, true_from_ne_false}
use Rattle.std.proofs.lemmas.List.{take-append-drop, drop_all, drop_more}
use Rattle.std.specs.List.{AllWithin, Contains}
use Rattle.std.specs.List.Sorted.{IsPartitionedBy}
use Rattle.hc_range.specs.Order.{is_below}
use Rattle.hc_range.specs.Ranges.{is_under, is_end_below, is_end_at_most, InRange, InAny, Includes, IsNonEmpty, EndsBelow, IsNormal}
use Rattle.hc_range.specs.declared.range.Range.{Range}
use Rattle.hc_range.proofs.ByteOrder.{below_flip, below_at_most, at_most_trans}
use Rattle.hc_range.proofs.Ends.{under_end, end_below_more, begins_below, under_down, IsNonEmpty-since}
use Rattle.hc_range.proofs.Normal.{Each, Each-take, holds_at, ends_below_at, none_later, InAny-cases, IsNormal-drop}
use Rattle.hc_range.proofs.Unique.{end_is_out}

-- where a test holds of a range wherever it holds of one that is later, it holds of a front of the list
partitioned : (p : Range → Bool) (ranges : List Range) → IsNormal ranges
    → ((a b : Range) → IsNonEmpty a → IsNonEmpty b → EndsBelow a b → p b ≡ true → p a ≡ true) → IsPartitionedBy p ranges
partitioned p ranges normal f i j d le within h =
    elim (cases_eq i j) [
      | inl same ↦ subst (λ (n : ℕ). p (get_or ranges n d) ≡ true) (sym same) h
      | inr other ↦ f (get_or ranges i d) (get_or ranges j d) (holds_at ranges normal i d (omega arith)) (holds_at ranges normal j d within)
          (ends_below_at ranges normal i j d (omega arith) within) h
    ]

-- in a normal list the ranges that end below a key are a front
pub before_partitioned : (key : List ℕ) (ranges : List Range) → IsNormal ranges → IsPartitionedBy (λ range. is_end_below range.hi key) ranges
before_partitioned key ranges normal =
    partitioned (λ range. is_end_below range.hi key) ranges normal
    (λ a b one two below h. end_below_more a.hi b.lo key below (below_flip b.lo key (under_end b.lo key b.hi two h)))

-- where an end is not below a range, it is below none that comes earlier
begun_at : (end : Option (List ℕ)) (a b : Range) → IsNonEmpty a → EndsBelow a b → is_end_below end b.lo ≡ false → is_end_below end a.lo ≡ false
begun_at end a b holds below h =
    false_from_ne_true _ (λ g. true≢false (sym (end_below_more end a.lo b.lo g (below_flip a.lo b.lo (begins_below a b holds below))) ∙ h))

-- in a normal list the ranges that an end is not below are a front
pub begun_partitioned : (end : Option (List ℕ)) (ranges : List Range) → IsNormal ranges → IsPartitionedBy (λ range. not (is_end_below end range.lo)) ranges
begun_partitioned end ranges normal =
    partitioned (λ range. not (is_end_below end range.lo)) ranges normal
    (λ a b one two below h. not_from_false _ (begun_at end a b one below (not-true _ h)))

-- where a key is not under the end of a range, it is under the end of none that comes earlier
passed_at : (key : List ℕ) (a b : Range) → IsNonEmpty b → EndsBelow a b → is_under key b.hi ≡ false → is_under key a.hi ≡ false
passed_at key a b holds below h =
    false_from_ne_true _ (λ g. true≢false (sym (under_down key b.lo b.hi (below_flip key b.lo (under_end key b.lo a.hi g below)) holds) ∙ h))

-- in a normal list the ranges whose ends a key is not under are a front
pub passed_partitioned : (key : List ℕ) (ranges : List Range) → IsNormal ranges → IsPartitionedBy (λ range. not (is_under key range.hi)) ranges
passed_partitioned key ranges normal =
    partitioned (λ range. not (is_under key range.hi)) ranges normal
    (λ a b one two below h. not_from_false _ (passed_at key a b two below (not-true _ h)))

-- a test and its negation, along a list
pub AllWithin-not_true : (p : Range → Bool) (ranges : List Range) (low high : ℕ) → AllWithin (λ range. not (p range) ≡ true) ranges low high → AllWithin (λ range. p range ≡ false) ranges low high
AllWithin-not_true p ranges low high h k d from upto = not-true _ (h k d from upto)

pub AllWithin-not_false : (p : Range → Bool) (ranges : List Range) (low high : ℕ) → AllWithin (λ range. not (p range) ≡ false) ranges low high → AllWithin (λ range. p range ≡ true) ranges low high
AllWithin-not_false p ranges low high h k d from upto = not-false _ (h k d from upto)

-- a key lies in no range whose end it is not under
none_in_passed : (key : List ℕ) (ranges : List Range) → Each (λ range. is_under key range.hi ≡ false) ranges → InAny ranges key → ⊥
none_in_passed key [] h at = elim at [ ]
none_in_passed key (range ∷ ranges) h (inl at) = true≢false (sym at.1 ∙ h.0)
none_in_passed key (range ∷ ranges) h (inr at) = none_in_passed key ranges h.1 at

-- a key of the list that is not under the ends of the first n ranges lies in the rest
in_rest : (key : List ℕ) (n : ℕ) (ranges : List Range) → n ≤ length ranges → AllWithin (λ range. is_under key range.hi ≡ false) ranges 0 n
    → InAny ranges key → InAny (drop n ranges) key
in_rest key n ranges le passed at =
    elim (InAny-cases (take n ranges) (drop n ranges) key (subst (λ (xs : List Range). InAny xs key) (sym (take-append-drop n ranges)) at)) [
      | inl front ↦ absurd (none_in_passed key (take n ranges) (Each-take (λ range. is_under key range.hi ≡ false) n ranges le passed) front)
      | inr rest ↦ rest
    ]

-- where each range is passed, none holds the key
pub none_holds : (key : List ℕ) (n : ℕ) (ranges : List Range) → n ≤ length ranges → length ranges ≤ n
    → AllWithin (λ range. is_under key range.hi ≡ false) ranges 0 n → InAny ranges key → ⊥
none_holds key n ranges le all passed at =
    elim (subst (λ (xs : List Range). InAny xs key) (drop_all n ranges all) (in_rest key n ranges le passed at)) [ ]

-- the first that is not passed is the only one that can hold the key
pub next_holds : (key : List ℕ) (n : ℕ) (ranges : List Range) (d : Range) → IsNormal ranges → n < length ranges
    → AllWithin (λ range. is_under key range.hi ≡ false) ranges 0 n → is_under key (get_or ranges n d).hi ≡ true
    → InAny ranges key → InRange (get_or ranges n d) key
next_holds key n ranges d normal lt passed under at =
    let rest : drop n ranges ≡ get_or ranges n d ∷ drop (n + 1) ranges = drop_more ranges n d lt in
    let rest_normal : IsNormal (get_or ranges n d ∷ drop (n + 1) ranges) = subst IsNormal rest (IsNormal-drop n ranges normal) in
    elim (subst (λ (xs : List Range). InAny xs key) rest (in_rest key n ranges (omega arith) passed at)) [
      | inl here ↦ here
      | inr later ↦ absurd (none_later (get_or ranges n d) (drop (n + 1) ranges) key under rest_normal.1 later)
    ]

-- a key in a range of the list lies in the list
pub InAny-contains : (ranges : List Range) (range : Range) (key : List ℕ) → Contains ranges range → InRange range key → InAny ranges key
InAny-contains ranges range key at h = go ranges at.0 at.1 at.2
  where
    go : (xs : List Range) (k : ℕ) → k < length xs → get_or xs k range ≡ range → InAny xs key
    go [] k lt is = absurd (omega arith)
    go (x ∷ xs) zero lt is = inl (subst (λ (r : Range). InRange r key) (sym is) h)
    go (x ∷ xs) (suc k) lt is = inr (go xs k (omega arith) is)

-- the key at the upper end of one range of a normal list lies in none
end_lies_outside : (ranges : List Range) (range : Range) (end : List ℕ) → IsNormal ranges → range.hi ≡ Some end
    → (k : ℕ) → k < length ranges → get_or ranges k range ≡ range → InAny ranges end → ⊥
end_lies_outside [] range end normal hi k lt is at = elim at [ ]
end_lies_outside (other ∷ ranges) range end normal hi zero lt is at =
    end_is_out other ranges end (ap (λ (r : Range). r.hi) is ∙ hi) normal.1 at
end_lies_outside (other ∷ ranges) range end normal hi (suc k) lt is (inr at) =
    end_lies_outside ranges range end normal.2 hi k (omega arith) is at
end_lies_outside (other ∷ ranges) range end normal hi (suc k) lt is (inl at) =
    let holds : IsNonEmpty range = subst IsNonEmpty is (holds_at ranges normal.2 k range (omega arith)) in
    let apart : EndsBelow other range = subst (λ (r : Range). EndsBelow other r) is (ends_below_at (other ∷ ranges) normal 0 (suc k) range (omega arith) lt) in
    let below : is_below range.lo end ≡ true = subst (λ (e : Option (List ℕ)). is_under range.lo e ≡ true) hi holds in
    true≢false (sym (under_end end range.lo other.hi at.1 apart) ∙ below_flip range.lo end below)

-- a part lies within a range that holds its lower end where it does not end later
pub within_since_ends : (range part : Range) (key : List ℕ) → InRange range part.lo → is_end_at_most part.hi range.hi ≡ true → InRange part key → InRange range key
within_since_ends range part key first ends at = (at_most_trans range.lo part.lo key first.0 at.0, under part.hi range.hi at.1 ends)
  where
    under : (end other : Option (List ℕ)) → is_under key end ≡ true → is_end_at_most end other ≡ true → is_under key other ≡ true
    under end None h g = refl
    under None (Some other) h g = absurd (false≢true g)
    under (Some end) (Some other) h g = below_at_most key end other h (not-true _ g)

-- and else it is not included
pub outside_since_ends : (ranges : List Range) (range part : Range) → IsNormal ranges → Contains ranges range → InRange range part.lo
    → is_end_at_most part.hi range.hi ≡ false → Includes ranges part → ⊥
outside_since_ends ranges range part normal contained first ends includes = go range.hi refl ends
  where
    go : (end : Option (List ℕ)) → range.hi ≡ end → is_end_at_most part.hi end ≡ false → ⊥
    go None is h = true≢false h
    go (Some end) is h =
        let below : is_below part.lo end ≡ true = subst (λ (e : Option (List ℕ)). is_under part.lo e ≡ true) is first.1 in
        end_lies_outside ranges range end normal is contained.0 contained.1 contained.2
        (includes end (below_flip part.lo end below, not-false _ h))

-- where the key is below the range that comes next, none holds it
pub none_holds_before : (key : List ℕ) (n : ℕ) (ranges : List Range) (range : Range) → IsNormal ranges → n < length ranges
    → AllWithin (λ other. is_under key other.hi ≡ false) ranges 0 n → AllWithin (λ other. is_under key other.hi ≡ true) ranges n (length ranges)
    → range ≡ get_or ranges n range → is_below key range.lo ≡ true → InAny ranges key → ⊥
none_holds_before key n ranges range normal lt passed others is below at =
    let next : InRange (get_or ranges n range) key = next_holds key n ranges range normal lt passed (others n range (omega arith) lt) at in
    true≢false (sym below ∙ ap (λ (r : Range). is_below key r.lo) is ∙ next.0)

-- what a search answers decides a fact that a found value shows, and that no value refutes
pub iff_from_search : {X : Type 0} (found : Option X) {P : X → Type 0} (Q : Type 0) → IfSome found P → ((x : X) → P x → Q)
    → IfNone found (Q → ⊥) → (is_some found ≡ true) ↔ Q
iff_from_search None Q h f none = (λ e. absurd (false≢true e), λ q. absurd (none q))
iff_from_search (Some x) Q h f none = (λ _. f x h, λ _. refl)

-- where a range holds a part's lower end, the part is included just where it does not end later
pub Includes-iff_ends : (ranges : List Range) (range part : Range) (ends : Bool) → IsNormal ranges → Contains ranges range
    → InRange range part.lo → ends ≡ is_end_at_most part.hi range.hi → (ends ≡ true) ↔ Includes ranges part
Includes-iff_ends ranges range part ends normal contained first is = (
  λ h key at. InAny-contains ranges range key contained (within_since_ends range part key first (sym is ∙ h) at),
  λ includes. is ∙ true_from_ne_false _ (λ later. outside_since_ends ranges range part normal contained first later includes),
)

-- an empty range holds no key
pub empty_holds_none : (range : Range) (key : List ℕ) (holds : Bool) → (holds ≡ true) ↔ IsNonEmpty range → holds ≡ false → InRange range key → ⊥
empty_holds_none range key holds iff empty at = true≢false (sym (iff.1 (IsNonEmpty-since range key at)) ∙ empty)
