-- How many levels a tree has: a level has twice as many numbers as the one above it at least.
use Rattle.std.proofs.Common.{◌≡◌, ◌≢◌, refl, sym, ap, subst, ℕ, zero, suc, ◌+◌, ◌*◌, ◌-◌, ◌^◌, ◌<◌, ◌≤◌, true, false, ◌||◌, eqb, List, [], ◌∷◌, ◌++◌, length, map, inl, inr, ⊎_elim, arith, length-append}
use Rattle.std.proofs.Math.Nat.{pow-suc}
use Rattle.std.proofs.Math.Pow.{pow_mono}
use Rattle.std.specs.List.{IsDistinct, list_any}
use Rattle.std.proofs.lemmas.Bool.{cases_eq, cases_lt, ne_eqb}
use Rattle.std.proofs.lemmas.List.{length-map}
use Rattle.std.proofs.lemmas.List.Elements.{recursion_from_All}
use Rattle.std.proofs.lemmas.Map.Steps.{length-le_from_distinct_below}
use Rattle.hc_range.specs.Order.{IsAtMost, IsBelow}
use Rattle.hc_range.proofs.ByteOrder.{below_at_most}
use Rattle.hc_base.specs.Content.{Ascends, Child, Content, Entry, Held, IsBelowEnd, IsWithin, keys, Version}
use Rattle.hc_base.specs.Lookup.{Among}
use Rattle.hc_shape.specs.Leaves.{LowsAscend}
use Rattle.hc_shape.specs.Shape.{IsReached, IsShape, Names, PartsKeys, Shape}
use Rattle.hc_shape.proofs.Counting.{ascends_both, no_longer, not_itself}
use Rattle.hc_shape.proofs.Leaves.{each_above}
use Rattle.hc_shape.proofs.Members.{all_among, among_both, each_all, entry_among}
use Rattle.hc_shape.proofs.Nexts.{beyond}
use Rattle.hc_shape.proofs.Nodes.{lows, lows_of, one_level, top_there}

-- the keys of the pages of some numbers, from left to right
abbrev all_keys : (ℕ → Content) → List ℕ → List (List ℕ)
all_keys node [] = []
all_keys node (n ∷ more) = keys (node n).entries ++ all_keys node more

among_all : (node : ℕ → Content) (ns : List ℕ) (y : List ℕ) → Among y (all_keys node ns) → (m : ℕ) × Among m ns × Among y (keys (node m).entries)
among_all node [] y there = absurd there
among_all node (n ∷ more) y there =
    ⊎_elim (λ (own : Among y (keys (node n).entries)). (n, inl refl, own))
    (λ (later : Among y (all_keys node more)). let m = among_all node more y later in (m.0, inr m.1, m.2))
    (among_both (keys (node n).entries) (all_keys node more) y there)

-- each page's keys are from its low fence on, and below each low fence further right
abbrev Bounded : (ℕ → Content) → (ℕ → List ℕ) → List ℕ → Type 0
Bounded node low ns =
    (n : ℕ) → Among n ns → (x : List ℕ) → Among x (keys (node n).entries)
    → IsAtMost (low n) x × ((m : ℕ) → Among m ns → IsBelow (low n) (low m) → IsBelow x (low m))

keys_ascend : (node : ℕ → Content) (low : ℕ → List ℕ) (ns : List ℕ) → LowsAscend low ns → ((n : ℕ) → Among n ns → Ascends (keys (node n).entries)) → Bounded node low ns
    → Ascends (all_keys node ns)
keys_ascend node low [] up own bounded = tt
keys_ascend node low (n ∷ more) up own bounded =
    ascends_both (keys (node n).entries) (all_keys node more) (own n (inl refl))
    (keys_ascend node low more up.1 (λ m later. own m (inr later))
    (λ m later x on. ((bounded m (inr later) x on).0, λ i there. (bounded m (inr later) x on).1 i (inr there)))
    )
    (λ x y on later.
    let m = among_all node more y later in
    below_at_most x (low m.0) y ((bounded n (inl refl) x on).1 m.0 (inr m.1) (each_above low (low n) more m.0 up.0 m.1)) (bounded m.0 (inr m.1) y m.2).0)

two_each : (node : ℕ → Content) (ns : List ℕ) → ((n : ℕ) → Among n ns → 2 ≤ length (node n).entries) → 2 * length ns ≤ length (all_keys node ns)
two_each node [] two = omega arith
two_each node (n ∷ more) two =
    omega (
      arith,
      two n (inl refl),
      two_each node more (λ m later. two m (inr later)),
      length-append (keys (node n).entries) (all_keys node more),
      length-map (node n).entries (λ (entry : Entry). entry.key),
    )

low_among : (low : ℕ → List ℕ) (ns : List ℕ) (n : ℕ) → Among n ns → Among (low n) (map low ns)
low_among low [] n there = absurd there
low_among low (m ∷ more) n (inl is) = inl (ap low is)
low_among low (m ∷ more) n (inr later) = inr (low_among low more n later)

named_key : (s : Shape) (k : ℕ) (key : List ℕ) (held : Held) → Names s k key held → Among key (map s.low (s.numbers k))
named_key s k key (Version tid rec older) names = absurd names
named_key s k key (Child number) names = subst (λ x. Among x (map s.low (s.numbers k))) names.1 (low_among s.low (s.numbers k) number.0 names.0)

some_number : (low : ℕ → List ℕ) (ns : List ℕ) → PartsKeys low ns → 1 ≤ length ns
some_number low [] parts = absurd parts
some_number low (n ∷ more) parts = omega arith

-- numbers whose low fences ascend differ
distinct : (low : ℕ → List ℕ) (ns : List ℕ) → LowsAscend low ns → IsDistinct eqb ns
unfolding IsDistinct
distinct low [] up = tt
distinct low (n ∷ more) up = (
  recursion_from_All (λ m. eqb n m ≡ false) more
      (each_all (λ m. eqb n m ≡ false) more (λ m there. ne_eqb n m (λ e. not_itself (low n) (low m) (ap low e) (each_above low (low n) more m up.0 there)))),
  distinct low more up.1,
)

any_among : (q : ℕ) (ns : List ℕ) → list_any (eqb q) ns ≡ true → Among q ns
any_among q [] h = absurd (no h)
  where
    no : false ≡ true → ⊥
    no e = cc
any_among q (n ∷ more) h =
    elim (cases_eq q n) [
      | inl is ↦ inl is
      | inr differ ↦ inr (any_among q more (subst (λ b. (b || list_any (eqb q) more) ≡ true) (ne_eqb q n differ) h))
    ]

-- different numbers from 1 to n without 2 are fewer than n
fewer : (ns : List ℕ) (most : ℕ) → IsDistinct eqb ns → 2 ≤ most → ((q : ℕ) → Among q ns → (0 < q) × (q ≢ 2) × (q ≤ most)) → length ns < most
unfolding IsDistinct
fewer ns most apart some each =
    omega (
      arith,
      length-le_from_distinct_below (0 ∷ 2 ∷ ns) (most + 1) (
        recursion_from_All (λ m. eqb 0 m ≡ false) (2 ∷ ns) (each_all (λ m. eqb 0 m ≡ false) (2 ∷ ns) no_zero),
        (recursion_from_All (λ m. eqb 2 m ≡ false) ns (each_all (λ m. eqb 2 m ≡ false) ns (λ m there. ne_eqb 2 m (λ e. (each m there).1 (sym e)))), apart),
      )
          (λ q any. below q (any_among q (0 ∷ 2 ∷ ns) any)),
    )
  where
    no_zero : (m : ℕ) → Among m (2 ∷ ns) → eqb 0 m ≡ false
    no_zero m (inl is) = ne_eqb 0 m (λ e. absurd (omega (arith, e, is)))
    no_zero m (inr there) = ne_eqb 0 m (λ e. absurd (omega (arith, e, (each m there).0)))

    below : (q : ℕ) → Among q (0 ∷ 2 ∷ ns) → q < most + 1
    below q (inl is) = omega (arith, is)
    below q (inr (inl is)) = omega (arith, is, some)
    below q (inr (inr there)) = omega (arith, (each q there).2)

module _ (node : ℕ → Content) (s : Shape) (h : IsShape node s) where
  bounded : (k : ℕ) → Bounded node s.low (s.numbers k)
  bounded k n there x on =
      let page = h.nodes k n there in
      let inside = all_among (IsWithin (node n).low (node n).high) (keys (node n).entries) x page.content.within on in (
        subst (λ l. IsAtMost l x) page.low inside.0,
        beyond s.low x n (s.numbers k) (lows node s h k n there) there (subst (λ end. IsBelowEnd x end) page.high inside.1),
      )

  -- each key of a level is the low fence of a number one level down
  below_named : (k : ℕ) (y : List ℕ) → Among y (all_keys node (s.numbers (suc k))) → Among y (map s.low (s.numbers k))
  below_named k y there =
      let m = among_all node (s.numbers (suc k)) y there in
      let e = entry_among (node m.0).entries y m.2 in
      let names = all_among (λ (x : Entry). Names s k x.key x.held) (node m.0).entries e.0 (h.nodes (suc k) m.0 m.1).entries e.1 in
      subst (λ x. Among x (map s.low (s.numbers k))) e.2 (named_key s k e.0.key e.0.held names)

  pub twice : (k : ℕ) → suc k < s.level 2 → 2 * length (s.numbers (suc k)) ≤ length (s.numbers k)
  twice k below =
      omega (
        arith,
        two_each node (s.numbers (suc k)) (λ n there. (h.nodes (suc k) n there).two (omega arith) below),
        length-map (s.numbers k) s.low,
        no_longer (all_keys node (s.numbers (suc k))) (map s.low (s.numbers k))
            (keys_ascend node s.low (s.numbers (suc k)) (lows_of s.low (s.numbers (suc k)) (h.parts (suc k) (omega (arith, below))))
            (λ n there. (h.nodes (suc k) n there).content.ascending) (bounded (suc k)))
            (lows_of s.low (s.numbers k) (h.parts k (omega (arith, below)))) (below_named k),
      )

  many : (j k : ℕ) → k + j + 1 ≡ s.level 2 → 2 ^ j ≤ length (s.numbers k)
  many zero k is = some_number s.low (s.numbers k) (h.parts k (omega (arith, is)))
  many (suc j) k is = omega (arith, pow-suc 2 j, many j (suc k) (omega (arith, is)), twice k (omega (arith, is)))

  pub leaves : 2 ^ (s.level 2 - 1) ≤ length (s.numbers 0)
  leaves = many (s.level 2 - 1) 0 (omega (arith, h.inner))

  -- a tree of fewer leaves than 2 to the power d has d levels above them at most
  pub by_leaves : (d : ℕ) → length (s.numbers 0) < 2 ^ d → s.level 2 ≤ d
  by_leaves d few =
      elim (cases_lt d (s.level 2)) [
        | inl over ↦ let less : d ≤ s.level 2 - 1 = omega (arith, over) in absurd (omega (arith, few, leaves, pow_mono less))
        | inr within ↦ within
      ]

  pub fewer_leaves : (most : ℕ) → ((n : ℕ) → IsReached s n → n ≤ most) → length (s.numbers 0) < most
  fewer_leaves most within =
      fewer (s.numbers 0) most (distinct s.low (s.numbers 0) (lows_of s.low (s.numbers 0) (h.parts 0 (omega arith)))) (within 2 (top_there node s h))
      (λ q there. (positive q there, not_two q there, within q (subst (λ j. Among q (s.numbers j)) (sym (h.levels 0 q there)) there)))
    where
      positive : (q : ℕ) → Among q (s.numbers 0) → 0 < q
      positive q there = let page = h.nodes 0 q there in omega (arith, page.own, page.content.own.0)

      not_two : (q : ℕ) → Among q (s.numbers 0) → q ≢ 2
      not_two q there is =
          absurd (omega (arith, h.inner, one_level node s h 0 (s.level 2) 2 (subst (λ x. Among x (s.numbers 0)) is there) (top_there node s h)))

  pub by_numbers : (d : ℕ) → ((n : ℕ) → IsReached s n → n ≤ 2 ^ d) → s.level 2 ≤ d
  by_numbers d within = by_leaves d (fewer_leaves (2 ^ d) within)
