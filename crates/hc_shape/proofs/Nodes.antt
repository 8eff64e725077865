-- A number's page where the pages or the shape around it change.
use Rattle.std.proofs.Common.{◌≡◌, refl, sym, ap, ◌∙◌, subst, ℕ, zero, suc, ◌<◌, ◌≤◌, List, [], ◌∷◌, length, map, Option, Some, None, inl, inr, arith}
use Rattle.std.proofs.lemmas.Bool.{cases_lt}
use Rattle.std.proofs.lemmas.List.Elements.{All-weaker}
use Rattle.hc_base.specs.Content.{Ascends, Child, Content, Entry, Held, IsContent, Version}
use Rattle.hc_base.specs.Lookup.{Among, but}
use Rattle.hc_base.proofs.Lookups.{each_but}
use Rattle.hc_shape.specs.Leaves.{LowsAscend}
use Rattle.hc_shape.specs.Plans.{KeepsHead}
use Rattle.hc_shape.specs.Shape.{AreEntriesAt, IsNode, IsShape, linked, low_of, Names, next_of, PartsKeys, Shape, Stays}
use Rattle.hc_shape.proofs.Nexts.{next_right}

-- From one shape to another, numbers below the top stay on their levels, and low fences stay.
pub record Extends (s t : Shape) : Type 0 where
  pub kept : (k n : ℕ) → k < s.level 2 → Among n (s.numbers k) → Among n (t.numbers k)
  pub low : (k n : ℕ) → Among n (s.numbers k) → t.low n ≡ s.low n

-- what an entry names, it names still
names_still : (s t : Shape) (below : ℕ) (key : List ℕ) (held : Held) → Extends s t → below < s.level 2 → Names s below key held → Names t below key held
names_still s t below key (Version tid rec older) ext less names = absurd names
names_still s t below key (Child number) ext less names = (ext.kept below number.0 less names.0, ext.low below number.0 names.0 ∙ names.1)

pub entries_still : (s t : Shape) (k : ℕ) (es : List Entry) → Extends s t → k ≤ s.level 2 → AreEntriesAt s k es → AreEntriesAt t k es
entries_still s t zero es ext within are = are
entries_still s t (suc below) es ext within are =
    All-weaker (λ e. Names s below e.key e.held) (λ e. Names t below e.key e.held) (λ e names. names_still s t below e.key e.held ext (omega (arith, within)) names) es are

-- the next number's low fence
pub next_low : (low after : ℕ → List ℕ) (ns : List ℕ) (n : ℕ) → LowsAscend low ns → ((m : ℕ) → Among m ns → after m ≡ low m) → low_of after (next_of ns n) ≡ low_of low (next_of ns n)
next_low low after ns n up same = by_next (next_of ns n) refl
  where
    by_next : (o : Option ℕ) → next_of ns n ≡ o → low_of after o ≡ low_of low o
    by_next None is = refl
    by_next (Some m) is = ap Some (same m (next_right low ns n m up is).0)

pub lows_of : (low : ℕ → List ℕ) (ns : List ℕ) → PartsKeys low ns → LowsAscend low ns
lows_of low [] parts = absurd parts
lows_of low (n ∷ more) parts = parts.1

-- The page of a number is as its level asks, also in a shape where the number has the same low fence, and the same number next to it.
module _ (s t : Shape) (k n : ℕ) (c : Content) (h : IsNode s k n c) where
  pub node_still : Extends s t → k ≤ s.level 2 → t.low n ≡ s.low n → next_of (t.numbers k) n ≡ next_of (s.numbers k) n
      → low_of t.low (next_of (s.numbers k) n) ≡ low_of s.low (next_of (s.numbers k) n) → (k < t.level 2 → k < s.level 2) → IsNode t k n c
  node_still ext within low next lows below = record {
    content = h.content;
    own = h.own;
    level = h.level;
    low = h.low ∙ sym low;
    right = h.right ∙ sym next;
    high = h.high ∙ sym (ap (low_of t.low) next ∙ lows);
    entries = entries_still s t k c.entries ext within h.entries;
    two = λ inner less. h.two inner (below less);
  }

  -- with other entries of its level it is so too
  pub node_with : (new : Content) → KeepsHead c new → IsContent new → AreEntriesAt s k new.entries → (0 < k → k < s.level 2 → 2 ≤ length new.entries) → IsNode s k n new
  node_with new head content entries two = record {
    content = content;
    own = ap (λ (x : Content). x.own.0) head ∙ h.own;
    level = ap (λ (x : Content). x.level) head ∙ h.level;
    low = ap (λ (x : Content). x.low) head ∙ h.low;
    right = ap (λ (x : Content). linked x.right) head ∙ h.right;
    high = ap (λ (x : Content). x.high) head ∙ h.high;
    entries = entries;
    two = two;
  }

module _ (node : ℕ → Content) (s : Shape) (h : IsShape node s) where
  -- a level with a number is not above the top
  pub within_top : (k n : ℕ) → Among n (s.numbers k) → k ≤ s.level 2
  within_top k n there =
      elim (cases_lt (s.level 2) k) [ inl above ↦ absurd (subst (λ ns. Among n ns) (h.above k above) there) | inr within ↦ within ]

  pub lows : (k n : ℕ) → Among n (s.numbers k) → LowsAscend s.low (s.numbers k)
  lows k n there = lows_of s.low (s.numbers k) (h.parts k (within_top k n there))

  pub one_level : (j k n : ℕ) → Among n (s.numbers j) → Among n (s.numbers k) → j ≡ k
  one_level j k n on_j on_k = sym (h.levels j n on_j) ∙ h.levels k n on_k

  -- the top is a number of its level
  pub top_there : Among 2 (s.numbers (s.level 2))
  top_there = subst (λ ns. Among 2 ns) (sym h.top) (inl refl)

  -- pages of other numbers do not matter
  pub same_pages : (after : ℕ → Content) → ((k n : ℕ) → Among n (s.numbers k) → after n ≡ node n) → IsShape after s
  same_pages after same = record {
    first = h.first;
    inner = h.inner;
    top = h.top;
    above = h.above;
    parts = h.parts;
    levels = h.levels;
    nodes = λ k n there. subst (λ c. IsNode s k n c) (sym (same k n there)) (h.nodes k n there);
  }

  -- one page is replaced
  pub replaced : (k n : ℕ) (new : Content) → Among n (s.numbers k) → IsNode s k n new → IsShape (but node n new) s
  replaced k n new there is = record {
    first = h.first;
    inner = h.inner;
    top = h.top;
    above = h.above;
    parts = h.parts;
    levels = h.levels;
    nodes = λ j m on.
        each_but node n new (λ i c. (l : ℕ) → Among i (s.numbers l) → IsNode s l i c)
        (λ l on_l. subst (λ i. IsNode s i n new) (one_level k l n there on_l) is) (λ i differ l on_l. h.nodes l i on_l) m j on;
  }

-- low fences that agree part all keys alike
map_same : (low after : ℕ → List ℕ) (ns : List ℕ) → ((m : ℕ) → Among m ns → after m ≡ low m) → map after ns ≡ map low ns
map_same low after [] same = refl
map_same low after (n ∷ more) same =
    ap (λ k. k ∷ map after more) (same n (inl refl)) ∙ ap (λ ks. low n ∷ ks) (map_same low after more (λ m later. same m (inr later)))

pub parts_still : (low after : ℕ → List ℕ) (ns : List ℕ) → ((m : ℕ) → Among m ns → after m ≡ low m) → PartsKeys low ns → PartsKeys after ns
parts_still low after [] same parts = parts
parts_still low after (n ∷ more) same parts = (same n (inl refl) ∙ parts.0, subst (λ ks. Ascends ks) (sym (map_same low after (n ∷ more) same)) parts.1)

-- what stays over two changes
pub stays_both : (s t u : Shape) → Stays s t → Stays t u → Stays s u
stays_both s t u first second = record {
  reached = λ n there. second.reached n (first.reached n there);
  low = λ n there. second.low n (first.reached n there) ∙ first.low n there;
  level = λ n there differ. second.level n (first.reached n there) differ ∙ first.level n there differ;
  top = omega (arith, first.top, second.top);
}
