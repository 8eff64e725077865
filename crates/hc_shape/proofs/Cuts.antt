-- The shape after a page is cut in two.
use Rattle.std.proofs.Common.{◌≡◌, ◌≢◌, refl, sym, ap, ◌∙◌, subst, ℕ, ◌<◌, ◌≤◌, List, [], ◌∷◌, length, Option, Some, None, inl, inr, ◌⊎◌, ⊎_elim, arith}
use Rattle.std.specs.List.{All}
use Rattle.std.proofs.lemmas.Bool.{cases_eq}
use Rattle.std.proofs.lemmas.List.Elements.{All-head}
use Rattle.hc_range.specs.Order.{IsAtMost, IsBelow}
use Rattle.hc_range.proofs.ByteOrder.{at_most_below}
use Rattle.hc_base.specs.declared.numbers.Logical.{Logical}
use Rattle.hc_base.specs.Content.{Content, Entry, IsBelowEnd, IsContent, IsWithin, keys}
use Rattle.hc_base.specs.Lookup.{Among, but}
use Rattle.hc_base.proofs.Lookups.{but-other, but-same, each_but}
use Rattle.hc_shape.specs.Changes.{cut_shape}
use Rattle.hc_shape.specs.Leaves.{CanCut, with_next}
use Rattle.hc_shape.specs.Plans.{AreSides}
use Rattle.hc_shape.specs.Shape.{AreEntriesAt, first_of, IsNode, IsShape, IsUnreached, linked, low_of, next_of, PartsKeys, Shape, Stays}
use Rattle.hc_shape.proofs.Leaves.{ascends_still}
use Rattle.hc_shape.proofs.Nexts.{among_next, beyond, first_kept, next_at, next_else, next_new, old_there}
use Rattle.hc_shape.proofs.Nodes.{entries_still, Extends, lows, next_low, node_still, one_level, parts_still, top_there, within_top}

-- a level that parts all keys does so with a number that was cut in two
parts_next : (low : ℕ → List ℕ) (ns : List ℕ) (at new : ℕ) (cut : List ℕ) → CanCut low ns at new cut → PartsKeys low ns → PartsKeys (but low new cut) (with_next at new ns)
parts_next low [] at new cut can parts = absurd parts
parts_next low (n ∷ more) at new cut can parts =
    (but-other low new n cut (λ e. can.fresh (inl e)) ∙ parts.0, ascends_still low (n ∷ more) at new cut can)

-- some key of entries that are there
some_key : (P : List ℕ → Type 0) (es : List Entry) → 0 < length es → All P (keys es) → (key : List ℕ) × P key
some_key P [] some all = absurd (omega (arith, some))
some_key P (x ∷ es) some all = (x.key, All-head P x.key (keys es) all)

-- what is at most a key below an end is below it
pub below_end : (a key : List ℕ) (end : Option (List ℕ)) → IsAtMost a key → IsBelowEnd key end → IsBelowEnd a end
below_end a key None at_most below = tt
below_end a key (Some end) at_most below = at_most_below a key end at_most below

-- Two pages in place of one: the cut is between the fences.
module _ (old : Content) (fresh : Logical) (left right : Content) (sides : AreSides old fresh left right) where
  pub cut_above : IsContent left → 0 < length left.entries → IsBelow old.low right.low
  cut_above content some =
      let x : (key : List ℕ) × IsWithin left.low left.high key = some_key (IsWithin left.low left.high) left.entries some content.within in
      at_most_below old.low x.0 right.low (subst (λ l. IsAtMost l x.0) (ap (λ (c : Content). c.low) sides.left_is) x.1.0)
      (subst (λ end. IsBelowEnd x.0 end) (ap (λ (c : Content). c.high) sides.left_is) x.1.1)

  pub cut_below : IsContent right → 0 < length right.entries → IsBelowEnd right.low old.high
  cut_below content some =
      let x : (key : List ℕ) × IsWithin right.low right.high key = some_key (IsWithin right.low right.high) right.entries some content.within in
      below_end right.low x.0 old.high x.1.0 (subst (λ end. IsBelowEnd x.0 end) (ap (λ (c : Content). c.high) sides.right_is) x.1.1)

-- A page below the top is cut in two, and the right half is the page of a number that no link reaches.
pub record Cuts (node : ℕ → Content) (s : Shape) (k n : ℕ) (fresh : Logical) (left right : Content) : Type 0 where
  pub shape : IsShape node s
  pub there : Among n (s.numbers k)
  pub below : k < s.level 2
  pub unreached : IsUnreached s fresh.0
  pub mapped : node fresh.0 ≡ right
  pub sides : AreSides (node n) fresh left right
  pub left_content : IsContent left
  pub right_content : IsContent right
  pub left_entries : AreEntriesAt s k left.entries
  pub right_entries : AreEntriesAt s k right.entries
  pub some : (0 < length left.entries) × (0 < length right.entries)
  pub two : 0 < k → (2 ≤ length left.entries) × (2 ≤ length right.entries)

module _ (node : ℕ → Content) (s : Shape) (k n : ℕ) (fresh : Logical) (left right : Content) (h : Cuts node s k n fresh left right) where
  abbrev t : Shape
  t = cut_shape s k n fresh.0 right.low

  abbrev after : ℕ → Content
  after = but node n left

  abbrev level : List ℕ
  level = with_next n fresh.0 (s.numbers k)

  old : IsNode s k n (node n)
  old = h.shape.nodes k n h.there

  -- the new number is none of those that there are
  apart : (j m : ℕ) → Among m (s.numbers j) → fresh.0 ≢ m
  apart j m there is = h.unreached j (subst (λ x. Among x (s.numbers j)) (sym is) there)

  lows_stay : (j m : ℕ) → Among m (s.numbers j) → t.low m ≡ s.low m
  lows_stay j m there = but-other s.low fresh.0 m right.low (apart j m there)

  extends : Extends s t
  extends = record {
    kept = λ j m less.
        each_but s.numbers k level (λ i ns. Among m (s.numbers i) → Among m ns) (λ there. old_there n fresh.0 m (s.numbers k) there) (λ i differ there. there) j;
    low = lows_stay;
  }

  top_stays : t.level 2 ≡ s.level 2
  top_stays = but-other s.level fresh.0 2 k (apart (s.level 2) 2 (top_there node s h.shape))

  pub can : CanCut s.low (s.numbers k) n fresh.0 right.low
  can = record {
    ascends = lows node s h.shape k n h.there;
    there = h.there;
    fresh = h.unreached k;
    above = subst (λ l. IsBelow l right.low) old.low (cut_above (node n) fresh left right h.sides h.left_content h.some.0);
    below =
        beyond s.low right.low n (s.numbers k) (lows node s h.shape k n h.there) h.there
        (subst (λ end. IsBelowEnd right.low end) old.high (cut_below (node n) fresh left right h.sides h.right_content h.some.1));
  }

  -- the left half is the number's page
  left_node : t.numbers k ≡ level → IsNode t k n left
  left_node is = record {
    content = h.left_content;
    own = ap (λ (c : Content). c.own.0) h.sides.left_is ∙ old.own;
    level = ap (λ (c : Content). c.level) h.sides.left_is ∙ old.level;
    low = ap (λ (c : Content). c.low) h.sides.left_is ∙ old.low ∙ sym (lows_stay k n h.there);
    right = ap (λ (c : Content). linked c.right) h.sides.left_is ∙ sym (ap (λ ns. next_of ns n) is ∙ next_at n fresh.0 (s.numbers k) h.there);
    high =
        ap (λ (c : Content). c.high) h.sides.left_is
        ∙ sym (ap (λ ns. low_of t.low (next_of ns n)) is ∙ ap (low_of t.low) (next_at n fresh.0 (s.numbers k) h.there) ∙ ap Some (but-same s.low fresh.0 right.low));
    entries = entries_still s t k left.entries extends (omega (arith, h.below)) h.left_entries;
    two = λ inner less. (h.two inner).0;
  }

  -- the right half is that of the new number
  right_node : t.numbers k ≡ level → IsNode t k fresh.0 right
  right_node is = record {
    content = h.right_content;
    own = ap (λ (c : Content). c.own.0) h.sides.right_is;
    level = ap (λ (c : Content). c.level) h.sides.right_is ∙ old.level;
    low = sym (but-same s.low fresh.0 right.low);
    right = ap (λ (c : Content). linked c.right) h.sides.right_is ∙ old.right ∙ sym next;
    high =
        ap (λ (c : Content). c.high) h.sides.right_is ∙ old.high
        ∙ sym (ap (low_of t.low) next ∙ next_low s.low t.low (s.numbers k) n (lows node s h.shape k n h.there) (λ m there. lows_stay k m there));
    entries = entries_still s t k right.entries extends (omega (arith, h.below)) h.right_entries;
    two = λ inner less. (h.two inner).1;
  }
    where
      next : next_of (t.numbers k) fresh.0 ≡ next_of (s.numbers k) n
      next = ap (λ ns. next_of ns fresh.0) is ∙ next_new n fresh.0 (s.numbers k) h.there (h.unreached k)

  -- each other number has the page that it had
  other_node : (j m : ℕ) → Among m (s.numbers j) → n ≢ m → next_of (t.numbers j) m ≡ next_of (s.numbers j) m → IsNode t j m (after m)
  other_node j m there differ next =
      subst (λ c. IsNode t j m c) (sym (but-other node n m left differ))
      (node_still s t j m (node m) (h.shape.nodes j m there) extends (within_top node s h.shape j m there) (lows_stay j m there) next
      (next_low s.low t.low (s.numbers j) m (lows node s h.shape j m there) (λ i on. lows_stay j i on)) (λ less. omega (arith, less, top_stays))
      )

  nodes_here : t.numbers k ≡ level → (m : ℕ) → Among m level → IsNode t k m (after m)
  nodes_here is m there =
      ⊎_elim
      (λ (new : m ≡ fresh.0). subst (λ x. IsNode t k x (after x)) (sym new)
      (subst (λ c. IsNode t k fresh.0 c) (sym (but-other node n fresh.0 left (λ e. apart k n h.there (sym e)) ∙ h.mapped)) (right_node is)))
      (λ (was : Among m (s.numbers k)). here_or_other was (cases_eq n m)) (among_next n fresh.0 m (s.numbers k) there)
    where
      here_or_other : Among m (s.numbers k) → (n ≡ m) ⊎ (n ≢ m) → IsNode t k m (after m)
      here_or_other was (inl same) = subst (λ x. IsNode t k x (after x)) same (subst (λ c. IsNode t k n c) (sym (but-same node n left)) (left_node is))
      here_or_other was (inr differ) =
          other_node k m was differ
          (ap (λ ns. next_of ns m) is ∙ next_else n fresh.0 m (s.numbers k) (λ e. differ (sym e)) (λ e. apart k m was (sym e)))

  nodes_after : (j m : ℕ) → Among m (t.numbers j) → IsNode t j m (after m)
  nodes_after j m there =
      each_but s.numbers k level (λ i ns. t.numbers i ≡ ns → (x : ℕ) → Among x ns → IsNode t i x (after x)) (λ is x on. nodes_here is x on)
      (λ i differ is x on.
      other_node i x on (λ e. differ (one_level node s h.shape k i x (subst (λ y. Among y (s.numbers k)) e h.there) on)) (ap (λ ns. next_of ns x) is)) j refl m there

  levels_after : (j m : ℕ) → Among m (t.numbers j) → t.level m ≡ j
  levels_after j m there =
      each_but s.numbers k level (λ i ns. (x : ℕ) → Among x ns → t.level x ≡ i)
      (λ x on. ⊎_elim (λ (new : x ≡ fresh.0). ap t.level new ∙ but-same s.level fresh.0 k) (λ (was : Among x (s.numbers k)). level_stays k x was)
      (among_next n fresh.0 x (s.numbers k) on))
      (λ i differ x on. level_stays i x on) j m there
    where
      level_stays : (i x : ℕ) → Among x (s.numbers i) → t.level x ≡ i
      level_stays i x on = but-other s.level fresh.0 x k (apart i x on) ∙ h.shape.levels i x on

  pub cut_is_shape : IsShape after t
  cut_is_shape = record {
    first =
        each_but s.numbers k level (λ i ns. first_of ns ≡ first_of (s.numbers i)) (first_kept n fresh.0 (s.numbers k)) (λ i differ. refl) 0 ∙ h.shape.first;
    inner = omega (arith, h.shape.inner, top_stays);
    top = ap t.numbers top_stays ∙ but-other s.numbers k (s.level 2) level (λ e. absurd (omega (arith, h.below, e))) ∙ h.shape.top;
    above = λ j over. but-other s.numbers k j level (λ e. absurd (omega (arith, h.below, e, over, top_stays))) ∙ h.shape.above j (omega (arith, over, top_stays));
    parts = λ j within.
        each_but s.numbers k level (λ i ns. i ≤ s.level 2 → PartsKeys t.low ns) (λ inside. parts_next s.low (s.numbers k) n fresh.0 right.low can (h.shape.parts k inside))
        (λ i differ inside. parts_still s.low t.low (s.numbers i) (λ m on. lows_stay i m on) (h.shape.parts i inside)) j (omega (arith, within, top_stays));
    levels = levels_after;
    nodes = nodes_after;
  }

  pub cut_stays : Stays s t
  cut_stays = record {
    reached = λ m there.
        subst (λ j. Among m (t.numbers j)) (sym (but-other s.level fresh.0 m k (apart (s.level m) m there)))
        (each_but s.numbers k level (λ i ns. Among m (s.numbers i) → Among m ns) (λ on. old_there n fresh.0 m (s.numbers k) on) (λ i differ on. on) (s.level m) there);
    low = λ m there. lows_stay (s.level m) m there;
    level = λ m there differ. but-other s.level fresh.0 m k (apart (s.level m) m there);
    top = omega (arith, top_stays);
  }
