-- Where links and entries lead.
use Rattle.std.proofs.Common.{◌≡◌, ◌≢◌, ◌≤◌, true, false, inr, ◌⊎◌, refl, sym, ap, ◌∙◌, subst, ℕ, zero, suc, ◌<◌, List, [], ◌∷◌, Some, inl, arith}
use Rattle.std.proofs.lemmas.Bool.{cases_Bool, true≢false}
use Rattle.hc_range.specs.Order.{is_below, IsAtMost, IsBelow}
use Rattle.hc_range.proofs.ByteOrder.{at_most_below, below_flip, empty_least}
use Rattle.hc_base.specs.declared.numbers.Logical.{Logical}
use Rattle.hc_base.specs.Content.{BeginsAt, Child, Content, Entry, Held, IsEntryOf, IsFence, keys, IsWithin, Version}
use Rattle.hc_base.specs.Lookup.{Among}
use Rattle.hc_base.specs.Words.{IsNumber}
use Rattle.hc_page.specs.Drafts.{child_of}
use Rattle.hc_shape.specs.Changes.{IsChildAt}
use Rattle.hc_shape.specs.Shape.{AreLinked, first_of, IsNamed, IsNode, IsReached, IsShape, linked, low_of, Names, number_at, PartsKeys, Shape}
use Rattle.hc_shape.specs.Versions.{version_of}
use Rattle.hc_shape.proofs.Cuts.{below_end}
use Rattle.hc_shape.proofs.Fences.{number_within}
use Rattle.hc_shape.proofs.Leaves.{own_number}
use Rattle.hc_shape.proofs.Members.{all_among, entry_among, key_among, some_is}
use Rattle.hc_shape.proofs.Nexts.{in_order, next_right}
use Rattle.hc_shape.proofs.Nodes.{lows, lows_of}
use Rattle.hc_shape.proofs.Versions.{own_version}

-- an inner page's first key is its low fence
begins : (level : ℕ) (low : List ℕ) (ks : List (List ℕ)) → 0 < level → BeginsAt level low ks → Among low ks
begins zero low ks inner is = absurd (omega (arith, inner))
begins (suc level) low [] inner is = absurd is
begins (suc level) low (key ∷ ks) inner is = inl is

child_there : (s : Shape) (k : ℕ) (key : List ℕ) (held : Held) → Names s k key held → (m : Logical) × (held ≡ Child m) × Among m.0 (s.numbers k) × (s.low m.0 ≡ key)
child_there s k key (Version tid rec older) names = absurd names
child_there s k key (Child number) names = (number, refl, names.0, names.1)

child_is : (m i : Logical) → Child m ≡ Child i → m ≡ i
child_is m i e = cc

-- the first of numbers that part all keys is one of them, and its low fence is the empty string
first_part : (low : ℕ → List ℕ) (ns : List ℕ) (n : ℕ) → first_of ns ≡ Some n → PartsKeys low ns → Among n ns × (low n ≡ [])
first_part low [] n is parts = absurd parts
first_part low (m ∷ more) n is parts = let same : m ≡ n = some_is m n is in (inl (sym same), subst (λ x. low x ≡ []) same parts.0)

module _ (node : ℕ → Content) (s : Shape) (h : IsShape node s) where
  -- a number of a level is reached
  pub reached : (k n : ℕ) → Among n (s.numbers k) → IsReached s n
  reached k n there = subst (λ j. Among n (s.numbers j)) (sym (h.levels k n there)) there

  pub first_two : (IsReached s 1 × (s.level 1 ≡ 0) × (s.low 1 ≡ [])) × (IsReached s 2 × (s.low 2 ≡ []))
  first_two =
      let leaf = first_part s.low (s.numbers 0) 1 h.first (h.parts 0 (omega arith)) in
      let top = first_part s.low (s.numbers (s.level 2)) 2 (ap first_of h.top) (h.parts (s.level 2) (omega arith)) in
      ((reached 0 1 leaf.0, h.levels 0 1 leaf.0, leaf.1), (top.0, top.1))

  -- its number and its low fence can be an entry
  pub child_entry : (k : ℕ) (key : List ℕ) (child : Logical) → IsChildAt s k key child → IsEntryOf 1 (child_of key child)
  child_entry k key child is =
      let page = h.nodes k child.0 is.there in
      (subst (λ n. IsNumber n) page.own page.content.own, subst (λ l. IsFence l) (page.low ∙ is.low) page.content.low)

  -- to the right: on the same level, with a greater low fence, which is the high fence here
  pub right_leads : (k n : ℕ) (m : Logical) → Among n (s.numbers k) → (node n).right ≡ Some m
      → Among m.0 (s.numbers k) × IsBelow (s.low n) (s.low m.0) × ((node n).high ≡ Some (s.low m.0))
  right_leads k n m there is =
      let page = h.nodes k n there in
      let next = sym page.right ∙ ap linked is in
      let on = next_right s.low (s.numbers k) n m.0 (lows node s h k n there) next in
      (on.0, on.1, page.high ∙ ap (low_of s.low) next)

  -- down: to a number one level down, with the key as its low fence
  pub entry_leads : (k n : ℕ) (e : Entry) → Among n (s.numbers (suc k)) → Among e (node n).entries
      → (m : Logical) × (e.held ≡ Child m) × Among m.0 (s.numbers k) × (s.low m.0 ≡ e.key)
  entry_leads k n e there on =
      child_there s k e.key e.held (all_among (λ (x : Entry). Names s k x.key x.held) (node n).entries e (h.nodes (suc k) n there).entries on)

  -- there is an entry at or below each key from the page's low fence on
  pub entry_for : (k n : ℕ) (key : List ℕ) → Among n (s.numbers (suc k)) → IsAtMost (s.low n) key → (e : Entry) × Among e (node n).entries × IsAtMost e.key key
  entry_for k n key there from =
      let page = h.nodes (suc k) n there in
      let e = entry_among (node n).entries (node n).low (begins (node n).level (node n).low (keys (node n).entries) (omega (arith, page.level)) page.content.begins) in
      (e.0, e.1, subst (λ l. IsAtMost l key) (sym (e.2 ∙ page.low)) from)

  -- the low fence of the number that an entry names is its key
  pub key_is : (k j : ℕ) (x : Entry) (m : Logical) → Among j (s.numbers (suc k)) → Among x (node j).entries → x.held ≡ Child m → s.low m.0 ≡ x.key
  key_is k j x m on in_j is = let c = entry_leads k j x on in_j in subst (λ (y : Logical). s.low y.0 ≡ x.key) (child_is c.0 m (sym c.1 ∙ is)) c.3

  -- the keys of a page are within its fences
  pub own_page : (k j : ℕ) (x : Entry) → Among j (s.numbers (suc k)) → Among x (node j).entries → IsWithin (node j).low (node j).high x.key
  own_page k j x on in_j =
      all_among (IsWithin (node j).low (node j).high) (keys (node j).entries) x.key (h.nodes (suc k) j on).content.within (key_among (node j).entries x in_j)

  -- two entries of a level name two numbers
  pub one_parent : (k n i : ℕ) (e f : Entry) (m : Logical) → Among n (s.numbers (suc k)) → Among i (s.numbers (suc k)) → Among e (node n).entries → Among f (node i).entries
      → e.held ≡ Child m → f.held ≡ Child m → (n ≡ i) × (e ≡ f)
  one_parent k n i e f m on_n on_i in_n in_i is_e is_f = (
    one_page,
    some_is e f
        (sym (own_version (node n).entries e page_n.content.ascending in_n) ∙ ap (λ x. version_of (node n).entries x) keys_same
        ∙ ap (λ x. version_of (node x).entries f.key) one_page ∙ own_version (node i).entries f page_i.content.ascending in_i),
  )
    where
      page_n : IsNode s (suc k) n (node n)
      page_n = h.nodes (suc k) n on_n

      page_i : IsNode s (suc k) i (node i)
      page_i = h.nodes (suc k) i on_i

      keys_same : e.key ≡ f.key
      keys_same = sym (key_is k n e m on_n in_n is_e) ∙ key_is k i f m on_i in_i is_f

      one_page : n ≡ i
      one_page =
          sym (number_within node s h (suc k) n f.key on_n (subst (λ y. IsWithin (node n).low (node n).high y) keys_same (own_page k n e on_n in_n)))
          ∙ number_within node s h (suc k) i f.key on_i (own_page k i f on_i in_i)

  -- the numbers of a level are in the order of their links
  pub level_linked : (k : ℕ) → k ≤ s.level 2 → AreLinked node (s.numbers k)
  level_linked k within = in_order s.low node (s.numbers k) (lows_of s.low (s.numbers k) (h.parts k within)) (λ n there. (h.nodes k n there).right)

-- A descent from a page that has the key, to a level whose numbers are all named.
module _ (node : ℕ → Content) (s : Shape) (h : IsShape node s) (k n : ℕ) (key : List ℕ) (e : Entry) (m : Logical) (on_n : Among n (s.numbers (suc k)))
    (inside : IsWithin (node n).low (node n).high key) (in_n : Among e (node n).entries) (is_e : e.held ≡ Child m)
    (last : (f : Entry) → Among f (node n).entries → IsBelow e.key f.key → IsBelow key f.key) where
  low_is : s.low m.0 ≡ e.key
  low_is = key_is node s h k n e m on_n in_n is_e

  -- a number further right with a low fence at or below the key would be named here, after the last entry
  none_between : (i : ℕ) → IsNamed node s k i → IsBelow (s.low m.0) (s.low i) → is_below key (s.low i) ≡ true ⊎ is_below key (s.low i) ≡ false → IsBelow key (s.low i)
  none_between i named less (inl below) = below
  none_between i named less (inr from) = subst (λ x. IsBelow key x) (sym fence) (last named.entry in_page (subst (λ x. IsBelow e.key x) fence above_e))
    where
      fence : s.low i ≡ named.entry.key
      fence = ap s.low (sym named.is) ∙ key_is node s h k named.parent named.entry named.child named.above named.there named.held

      above_e : IsBelow e.key (s.low i)
      above_e = subst (λ x. IsBelow x (s.low i)) low_is less

      within_here : IsWithin (node n).low (node n).high (s.low i)
      within_here = (
        below_flip (node n).low (s.low i) (at_most_below (node n).low e.key (s.low i) (own_page node s h k n e on_n in_n).0 above_e),
        below_end (s.low i) key (node n).high from inside.1,
      )

      one : named.parent ≡ n
      one =
          sym (number_within node s h (suc k) named.parent (s.low i) named.above
          (subst (λ x. IsWithin (node named.parent).low (node named.parent).high x) (sym fence) (own_page node s h k named.parent named.entry named.above named.there)))
          ∙ number_within node s h (suc k) n (s.low i) on_n within_here

      in_page : Among named.entry (node n).entries
      in_page = subst (λ p. Among named.entry (node p).entries) one named.there

  pub straight : ((i : ℕ) → Among i (s.numbers k) → s.low i ≢ [] → IsNamed node s k i) → IsAtMost e.key key → number_at s k key ≡ m.0
  straight all from =
      own_number s.low (s.numbers k) key m.0 (lows node s h k m.0 there) there (subst (λ x. IsAtMost x key) (sym low_is) from)
      (λ i on less. none_between i (all i on (not_first i less)) less (cases_Bool (is_below key (s.low i))))
    where
      there : Among m.0 (s.numbers k)
      there = let c = entry_leads node s h k n e on_n in_n in subst (λ (y : Logical). Among y.0 (s.numbers k)) (child_is c.0 m (sym c.1 ∙ is_e)) c.2

      not_first : (i : ℕ) → IsBelow (s.low m.0) (s.low i) → s.low i ≢ []
      not_first i less is = true≢false (sym (subst (λ x. IsBelow (s.low m.0) x) is less) ∙ empty_least (s.low m.0))
