-- A range takes the place of the stretch of a normal list that it overlaps or touches.
use Rattle.std.proofs.Common.{◌≡◌, ℕ, ◌+◌, ◌-◌, ◌<◌, ◌≤◌, true, false, List, [], ◌∷◌, ◌++◌, length, get_or, take, drop, refl, sym, ap, ◌∙◌, subst, ◌⊎◌, ◌↔◌, inl, inr, zero, suc, arith}
use Rattle.std.proofs.lemmas.Bool.{true≢false, cases_Bool}
use Rattle.std.proofs.lemmas.List.{take-append-drop, take_rest, drop-drop, get_or-drop}
use Rattle.std.specs.List.{AllWithin, insert}
use Rattle.hc_range.specs.Order.{is_below, lower}
use Rattle.hc_range.specs.Ranges.{is_under, is_end_below, later, united, InRange, InAny, IsNonEmpty, EndsBelow, EndsBelowEach, IsNormal}
use Rattle.hc_range.specs.declared.range.Range.{Range}
use Rattle.hc_range.proofs.ByteOrder.{at_most_trans}
use Rattle.hc_range.proofs.Ends.{under_down, under_later_left, under_later_right, under_later_cases, lower_left, lower_right, lower_cases, end_below_lower, later_end_below, under_since_not_below, above_since_not_under}
use Rattle.hc_range.proofs.Normal.{Each, Each-take, Each-drop, Apart, EndsBelowEach-back, last, last_in, within_ends, IsNormal-front, IsNormal-back, IsNormal-append, Apart-from_normal, InAny-cases, InAny-left, InAny-right}

-- what follows from two facts of a range holds of each where both do
Each-both : (P Q R : Range → Type 0) → ((range : Range) → P range → Q range → R range)
    → (ranges : List Range) → Each P ranges → Each Q ranges → Each R ranges
Each-both P Q R f [] h g = tt
Each-both P Q R f (range ∷ ranges) h g = (f range h.0 g.0, Each-both P Q R f ranges h.1 g.1)

-- a range that ends below the ranges of a list one by one ends below the list
EndsBelowEach-from : (range : Range) (ranges : List Range) → Each (λ other. EndsBelow range other) ranges → EndsBelowEach range ranges
EndsBelowEach-from range [] h = tt
EndsBelowEach-from range (other ∷ ranges) h = (h.0, EndsBelowEach-from range ranges h.1)

-- a range between those that end below it and those that it ends below
pub IsNormal-put : (range : Range) (front back : List Range) → IsNormal (front ++ back) → IsNonEmpty range
    → Each (λ other. EndsBelow other range) front → Each (λ other. EndsBelow range other) back → IsNormal (front ++ range ∷ back)
IsNormal-put range front back normal holds before after =
    IsNormal-append front (range ∷ back) (IsNormal-front front back normal)
    (holds, EndsBelowEach-from range back after, IsNormal-back front back normal)
    (Each-both (λ other. EndsBelow other range) (λ other. EndsBelowEach other back) (λ other. EndsBelowEach other (range ∷ back))
    (λ _ below more. (below, more)) front before (Apart-from_normal front back normal))

-- a range put between a front and a back adds its own keys to theirs
pub InAny-put : (range : Range) (front back : List Range) (key : List ℕ)
    → InAny (front ++ range ∷ back) key ↔ (InAny (front ++ back) key ⊎ InRange range key)
InAny-put range front back key = (out, elim_in)
  where
    out : InAny (front ++ range ∷ back) key → InAny (front ++ back) key ⊎ InRange range key
    out at = elim (InAny-cases front (range ∷ back) key at) [
      | inl before ↦ inl (InAny-left front back key before)
      | inr (inl here) ↦ inr here
      | inr (inr after) ↦ inl (InAny-right front back key after)
    ]

    elim_in : InAny (front ++ back) key ⊎ InRange range key → InAny (front ++ range ∷ back) key
    elim_in (inr here) = InAny-right front (range ∷ back) key (inl here)
    elim_in (inl at) = elim (InAny-cases front back key at) [
      | inl before ↦ InAny-left front (range ∷ back) key before
      | inr after ↦ InAny-right front (range ∷ back) key (inr after)
    ]

-- where a stretch ends below what follows it, its last range does
last_ends_below : (first : Range) (more back : List Range) → Apart (first ∷ more) back → EndsBelowEach (last first more) back
last_ends_below first [] back h = h.0
last_ends_below first (other ∷ more) back h = last_ends_below other more back h.1

-- what holds of each holds of the last
Each-last : (P : Range → Type 0) (first : Range) (more : List Range) → Each P (first ∷ more) → P (last first more)
Each-last P first [] h = h.0
Each-last P first (other ∷ more) h = Each-last P other more h.1

-- a range that ends below a list ends below its ranges one by one
each_from : (range : Range) (ranges : List Range) → EndsBelowEach range ranges → Each (λ other. EndsBelow range other) ranges
each_from range [] h = tt
each_from range (other ∷ ranges) h = (h.0, each_from range ranges h.1)

-- the united range keeps the list normal
pub IsNormal-united : (range first : Range) (front more back : List Range) → IsNormal (front ++ ((first ∷ more) ++ back)) → IsNonEmpty range
    → Each (λ other. EndsBelow other range) front → Each (λ other. EndsBelow range other) back
    → IsNormal (front ++ united range first (last first more) ∷ back)
IsNormal-united range first front more back normal holds before after =
    let apart = Apart-from_normal front ((first ∷ more) ++ back) normal in
    let stretch = IsNormal-back front ((first ∷ more) ++ back) normal in
    let past = Apart-from_normal (first ∷ more) back stretch in
    IsNormal-append front (united range first (last first more) ∷ back) (IsNormal-front front ((first ∷ more) ++ back) normal) (
      under_down (lower range.lo first.lo) range.lo (later range.hi (last first more).hi) (lower_left range.lo first.lo)
          (under_later_left range.lo range.hi (last first more).hi holds),
      EndsBelowEach-from (united range first (last first more)) back
          (Each-both (λ other. EndsBelow range other) (λ other. EndsBelow (last first more) other) (λ other. EndsBelow (united range first (last first more)) other)
          (λ other one two. later_end_below range.hi (last first more).hi other.lo one two) back after
          (each_from (last first more) back (last_ends_below first more back past))),
      IsNormal-back (first ∷ more) back stretch,
    )
    (Each-both (λ other. EndsBelow other range) (λ other. EndsBelowEach other ((first ∷ more) ++ back))
    (λ other. EndsBelowEach other (united range first (last first more) ∷ back))
    (λ other one two. (end_below_lower other.hi range.lo first.lo one two.0, EndsBelowEach-back other (first ∷ more) back two)) front before apart)

-- each key of the united range is in the range or in the stretch
united_cases : (range first : Range) (more : List Range) (key : List ℕ)
    → is_end_below first.hi range.lo ≡ false → is_end_below range.hi (last first more).lo ≡ false
    → InRange (united range first (last first more)) key → InAny (first ∷ more) key ⊎ InRange range key
united_cases range first more key touches_first touches_last at =
    elim (cases_Bool (is_below key range.lo)) [
      | inl before ↦ elim (lower_cases range.lo first.lo key at.0) [
        | inl other ↦ absurd (true≢false (sym before ∙ other))
        | inr above ↦ inl (inl (above, under_since_not_below key range.lo first.hi touches_first before))
      ]
      | inr above ↦ elim (cases_Bool (is_under key range.hi)) [
        | inl under ↦ inr (above, under)
        | inr past ↦ elim (under_later_cases key range.hi (last first more).hi at.1) [
          | inl under ↦ absurd (true≢false (sym under ∙ past))
          | inr under ↦ inl (last_in first more key
              (above_since_not_under key (last first more).lo range.hi past touches_last, under))
        ]
      ]
    ]

-- each key of the stretch is in the united range
united_from_stretch : (range first : Range) (more : List Range) (key : List ℕ) → IsNormal (first ∷ more)
    → InAny (first ∷ more) key → InRange (united range first (last first more)) key
united_from_stretch range first more key normal at =
    let ends : (is_below key first.lo ≡ false) × (is_under key (last first more).hi ≡ true) = within_ends first more key normal at in (
      at_most_trans (lower range.lo first.lo) first.lo key (lower_right range.lo first.lo) ends.0,
      under_later_right key range.hi (last first more).hi ends.1,
    )

-- each key of the range is in the united range
united_from_range : (range first end : Range) (key : List ℕ) → InRange range key → InRange (united range first end) key
united_from_range range first end key at =
    (at_most_trans (lower range.lo first.lo) range.lo key (lower_left range.lo first.lo) at.0, under_later_left key range.hi end.hi at.1)

-- the united range holds the keys of the range and of the stretch
pub InAny-united : (range first : Range) (front more back : List Range) (key : List ℕ) → IsNormal (first ∷ more)
    → is_end_below first.hi range.lo ≡ false → is_end_below range.hi (last first more).lo ≡ false
    → InAny (front ++ united range first (last first more) ∷ back) key
    ↔ (InAny (front ++ ((first ∷ more) ++ back)) key ⊎ InRange range key)
InAny-united range first front more back key normal touches_first touches_last = (out, back_in)
  where
    out : InAny (front ++ united range first (last first more) ∷ back) key → InAny (front ++ ((first ∷ more) ++ back)) key ⊎ InRange range key
    out at = elim (InAny-cases front (united range first (last first more) ∷ back) key at) [
      | inl before ↦ inl (InAny-left front ((first ∷ more) ++ back) key before)
      | inr (inl here) ↦ elim (united_cases range first more key touches_first touches_last here) [
        | inl stretch ↦ inl (InAny-right front ((first ∷ more) ++ back) key (InAny-left (first ∷ more) back key stretch))
        | inr in_range ↦ inr in_range
      ]
      | inr (inr after) ↦ inl (InAny-right front ((first ∷ more) ++ back) key (InAny-right (first ∷ more) back key after))
    ]

    whole : InAny ((first ∷ more) ++ back) key → InAny (front ++ united range first (last first more) ∷ back) key
    whole at = elim (InAny-cases (first ∷ more) back key at) [
      | inl stretch ↦ InAny-right front (united range first (last first more) ∷ back) key (inl (united_from_stretch range first more key normal stretch))
      | inr after ↦ InAny-right front (united range first (last first more) ∷ back) key (inr after)
    ]

    back_in : InAny (front ++ ((first ∷ more) ++ back)) key ⊎ InRange range key → InAny (front ++ united range first (last first more) ∷ back) key
    back_in (inr here) = InAny-right front (united range first (last first more) ∷ back) key (inl (united_from_range range first (last first more) key here))
    back_in (inl at) = elim (InAny-cases front ((first ∷ more) ++ back) key at) [
      | inl before ↦ InAny-left front (united range first (last first more) ∷ back) key before
      | inr rest ↦ whole rest
    ]

-- ---- a list cut at two places

-- the first n of a list, of which there is one at least: the first, the others, and where the last one is
pub record Stretch (ranges : List Range) (n : ℕ) (d : Range) : Type 0 where
  pub first : Range
  pub more : List Range
  pub is : take n ranges ≡ first ∷ more
  pub at_start : get_or ranges 0 d ≡ first
  pub at_end : get_or ranges (n - 1) d ≡ last first more

-- the one at place n of a list is the last of its first n + 1
last_at : (first : Range) (ranges : List Range) (n : ℕ) (d : Range) → n ≤ length ranges → get_or (first ∷ ranges) n d ≡ last first (take n ranges)
last_at first ranges zero d le = refl
last_at first [] (suc n) d le = absurd (omega arith)
last_at first (other ∷ ranges) (suc n) d le = last_at other ranges n d (omega arith)

-- the first n of a list, at least one and no more than it has, are a stretch
pub stretch_of : (ranges : List Range) (n : ℕ) (d : Range) → 0 < n → n ≤ length ranges → Stretch ranges n d
stretch_of ranges zero d some le = absurd (omega arith)
stretch_of [] (suc n) d some le = absurd (omega arith)
stretch_of (first ∷ ranges) (suc n) d some le =
    record {
      first = first;
      more = take n ranges;
      is = refl;
      at_start = refl;
      at_end =
          ap (λ (i : ℕ). get_or (first ∷ ranges) i d) (omega arith) ∙ last_at first ranges n d (omega arith);
    }

-- where a range belongs in a list: `from` ranges lie before it and do not touch it, and `count` of the
-- others are not after it
pub record Cut (ranges : List Range) (range : Range) (from count : ℕ) : Type 0 where
  pub from_within : from ≤ length ranges
  pub count_within : count ≤ length (drop from ranges)
  pub before : AllWithin (λ other. is_end_below other.hi range.lo ≡ true) ranges 0 from
  pub touching : AllWithin (λ other. is_end_below other.hi range.lo ≡ false) ranges from (length ranges)
  pub begun : AllWithin (λ other. is_end_below range.hi other.lo ≡ false) (drop from ranges) 0 count
  pub past : AllWithin (λ other. is_end_below range.hi other.lo ≡ true) (drop from ranges) count (length (drop from ranges))

-- a cut from what two searches answer, the second over the rest of the list
pub Cut-from_searches : (ranges one two : List Range) (range : Range) (lo : List ℕ) (from count : ℕ)
    → one ≡ ranges → two ≡ ranges → lo ≡ range.lo
    → from ≤ length one
    → AllWithin (λ other. is_end_below other.hi lo ≡ true) one 0 from
    → AllWithin (λ other. is_end_below other.hi lo ≡ false) one from (length one)
    → count ≤ length (take (length two - from) (drop from two))
    → AllWithin (λ other. is_end_below range.hi other.lo ≡ false) (take (length two - from) (drop from two)) 0 count
    → AllWithin (λ other. is_end_below range.hi other.lo ≡ true) (take (length two - from) (drop from two)) count (length (take (length two - from) (drop from two)))
    → Cut ranges range from count
Cut-from_searches ranges one two range lo from count is_one is_two is_lo within before touching count_within begun past =
    let rest : take (length two - from) (drop from two) ≡ drop from ranges = take_rest two from ∙ ap (λ (xs : List Range). drop from xs) is_two in
    record {
      from_within = subst (λ (xs : List Range). from ≤ length xs) is_one within;
      count_within = subst (λ (xs : List Range). count ≤ length xs) rest count_within;
      before = subst (λ (k : List ℕ). AllWithin (λ other. is_end_below other.hi k ≡ true) ranges 0 from) is_lo
          (subst (λ (xs : List Range). AllWithin (λ other. is_end_below other.hi lo ≡ true) xs 0 from) is_one before);
      touching = subst (λ (k : List ℕ). AllWithin (λ other. is_end_below other.hi k ≡ false) ranges from (length ranges)) is_lo
          (subst (λ (xs : List Range). AllWithin (λ other. is_end_below other.hi lo ≡ false) xs from (length xs)) is_one touching);
      begun = subst (λ (xs : List Range). AllWithin (λ other. is_end_below range.hi other.lo ≡ false) xs 0 count) rest begun;
      past = subst (λ (xs : List Range). AllWithin (λ other. is_end_below range.hi other.lo ≡ true) xs count (length xs)) rest past;
    }

-- where no range touches the new one, it is inserted
pub IsNormal-inserted : (ranges : List Range) (range : Range) (from : ℕ) → Cut ranges range from 0 → IsNormal ranges → IsNonEmpty range
    → IsNormal (insert ranges from range)
IsNormal-inserted ranges range from cut normal holds =
    IsNormal-put range (take from ranges) (drop from ranges) (subst IsNormal (sym (take-append-drop from ranges)) normal) holds
    (Each-take (λ other. EndsBelow other range) from ranges cut.from_within cut.before)
    (Each-drop (λ other. EndsBelow range other) 0 (drop from ranges) cut.past)

-- an inserted range adds its own keys to those of the list
pub InAny-inserted : (ranges : List Range) (range : Range) (from : ℕ) (key : List ℕ)
    → InAny (insert ranges from range) key ↔ (InAny ranges key ⊎ InRange range key)
InAny-inserted ranges range from key =
    subst (λ (xs : List Range). InAny (insert ranges from range) key ↔ (InAny xs key ⊎ InRange range key)) (take-append-drop from ranges)
    (InAny-put range (take from ranges) (drop from ranges) key)

-- the list in which the stretch is replaced
abbrev pub merged : List Range → Range → ℕ → ℕ → List Range
merged ranges range from to = take from ranges ++ united range (get_or ranges from range) (get_or ranges (to - 1) range) ∷ drop to ranges

-- the merged list is the front, the united range and what follows the stretch
merged_is : (ranges : List Range) (range : Range) (from count : ℕ) → 0 < count → (stretch : Stretch (drop from ranges) count range)
    → merged ranges range from (from + count) ≡ take from ranges ++ united range stretch.first (last stretch.first stretch.more) ∷ drop count (drop from ranges)
merged_is ranges range from count some stretch =
    let at_start : get_or ranges from range ≡ stretch.first = ap (λ (i : ℕ). get_or ranges i range) (omega arith) ∙ sym (get_or-drop from ranges 0 range) ∙ stretch.at_start in
    let at_end : get_or ranges (from + count - 1) range ≡ last stretch.first stretch.more =
    ap (λ (i : ℕ). get_or ranges i range) (omega arith) ∙ sym (get_or-drop from ranges (count - 1) range) ∙ stretch.at_end in
    λ i. take from ranges ++ united range (at_start i) (at_end i) ∷ sym (drop-drop count from ranges) i

-- a list is its front, the stretch, and what follows it
parts : (ranges : List Range) (range : Range) (from count : ℕ) (stretch : Stretch (drop from ranges) count range)
    → ranges ≡ take from ranges ++ ((stretch.first ∷ stretch.more) ++ drop count (drop from ranges))
parts ranges range from count stretch =
    sym (take-append-drop from ranges)
    ∙ ap (λ (xs : List Range). take from ranges ++ xs) (sym (take-append-drop count (drop from ranges)))
    ∙ ap (λ (xs : List Range). take from ranges ++ (xs ++ drop count (drop from ranges))) stretch.is

-- the merged list is normal
pub IsNormal-merged : (ranges : List Range) (range : Range) (from count : ℕ) → 0 < count → Cut ranges range from count → IsNormal ranges → IsNonEmpty range
    → IsNormal (merged ranges range from (from + count))
IsNormal-merged ranges range from count some cut normal holds =
    let stretch : Stretch (drop from ranges) count range = stretch_of (drop from ranges) count range some cut.count_within in
    subst IsNormal (sym (merged_is ranges range from count some stretch))
    (IsNormal-united range stretch.first (take from ranges) stretch.more (drop count (drop from ranges))
    (subst IsNormal (parts ranges range from count stretch) normal) holds
    (Each-take (λ other. EndsBelow other range) from ranges cut.from_within cut.before)
    (Each-drop (λ other. EndsBelow range other) count (drop from ranges) cut.past))

-- what holds of each of a list holds of the first
first_of_each : (P : Range → Type 0) (first : Range) (more : List Range) (n : ℕ) (ranges : List Range) → take n ranges ≡ first ∷ more → Each P ranges → P first
first_of_each P first more zero ranges is h = cc
first_of_each P first more (suc n) [] is h = cc
first_of_each P first more (suc n) (range ∷ ranges) is h = subst P (ap (λ (xs : List Range). get_or xs 0 first) is) h.0

-- the merged list holds the keys of the list and of the range
pub InAny-merged : (ranges : List Range) (range : Range) (from count : ℕ) → 0 < count → Cut ranges range from count → IsNormal ranges
    → (key : List ℕ) → InAny (merged ranges range from (from + count)) key ↔ (InAny ranges key ⊎ InRange range key)
InAny-merged ranges range from count some cut normal key =
    let stretch : Stretch (drop from ranges) count range = stretch_of (drop from ranges) count range some cut.count_within in
    let back : List Range = drop count (drop from ranges) in
    let split : ranges ≡ take from ranges ++ ((stretch.first ∷ stretch.more) ++ back) = parts ranges range from count stretch in
    let stretch_normal : IsNormal (stretch.first ∷ stretch.more) =
    IsNormal-front (stretch.first ∷ stretch.more) back (IsNormal-back (take from ranges) ((stretch.first ∷ stretch.more) ++ back) (subst IsNormal split normal)) in
    let touches_first : is_end_below stretch.first.hi range.lo ≡ false =
    first_of_each (λ other. is_end_below other.hi range.lo ≡ false) stretch.first stretch.more count (drop from ranges) stretch.is
    (Each-drop (λ other. is_end_below other.hi range.lo ≡ false) from ranges cut.touching) in
    let touches_last : is_end_below range.hi (last stretch.first stretch.more).lo ≡ false =
    Each-last (λ other. is_end_below range.hi other.lo ≡ false) stretch.first stretch.more
    (subst (λ (xs : List Range). Each (λ other. is_end_below range.hi other.lo ≡ false) xs) stretch.is
    (Each-take (λ other. is_end_below range.hi other.lo ≡ false) count (drop from ranges) cut.count_within cut.begun)) in
    subst (λ (xs : List Range). InAny xs key ↔ (InAny ranges key ⊎ InRange range key)) (sym (merged_is ranges range from count some stretch))
    (subst (λ (xs : List Range). InAny (take from ranges ++ united range stretch.first (last stretch.first stretch.more) ∷ back) key ↔ (InAny xs key ⊎ InRange range key)) (sym split)
    (InAny-united range stretch.first (take from ranges) stretch.more back key stretch_normal touches_first touches_last))

-- a fact of a set and of what is still to come, one part further
pub one_further : {New Old Here Later All : Type 0} → New ↔ (Old ⊎ Here) → (Old ⊎ (Here ⊎ Later)) ↔ All → (New ⊎ Later) ↔ All
one_further here all = (
  λ h. elim h [
    | inl n ↦ elim (here.0 n) [ inl old ↦ all.0 (inl old) | inr at ↦ all.0 (inr (inl at)) ]
    | inr later ↦ all.0 (inr (inr later))
  ],
  λ h. elim (all.1 h) [
    | inl old ↦ inl (here.1 (inl old))
    | inr (inl at) ↦ inl (here.1 (inr at))
    | inr (inr later) ↦ inr later
  ],
)

-- and where nothing is still to come
pub none_further : {Some Later All : Type 0} → (Some ⊎ Later) ↔ All → (Later → ⊥) → Some ↔ All
none_further all none = (λ h. all.0 (inl h), λ h. elim (all.1 h) [ inl at ↦ at | inr later ↦ absurd (none later) ])
