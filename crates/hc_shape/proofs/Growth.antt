-- The shape after the top grew.
use Rattle.std.proofs.Common.{◌≡◌, ◌≢◌, refl, sym, ap, ◌∙◌, subst, ℕ, suc, ◌<◌, ◌≤◌, cond, List, [], ◌∷◌, ◌++◌, Some, None, inl, inr, ◌⊎◌, ⊎_elim, arith}
use Rattle.std.specs.List.{All}
use Rattle.std.proofs.lemmas.Bool.{cases_eq, eq-eqb, ne_eqb}
use Rattle.std.proofs.lemmas.List.Elements.{All-cons, All-nil}
use Rattle.hc_range.specs.Order.{IsBelow}
use Rattle.hc_base.specs.declared.numbers.Logical.{Logical}
use Rattle.hc_base.specs.Content.{Content, Entry}
use Rattle.hc_base.specs.Lookup.{Among, but}
use Rattle.hc_base.proofs.Lookups.{but-other, but-same, each_but}
use Rattle.hc_page.specs.Drafts.{child_of}
use Rattle.hc_shape.specs.Changes.{grown_shape, Grows}
use Rattle.hc_shape.specs.Leaves.{number_of}
use Rattle.hc_shape.specs.Plans.{AreSides}
use Rattle.hc_shape.specs.Shape.{AreEntriesAt, entry_of, first_of, IsNode, IsReached, IsShape, linked, low_of, Names, next_of, PartsKeys, Shape, Stays}
use Rattle.hc_shape.proofs.Changes.{names_all}
use Rattle.hc_shape.proofs.Cuts.{cut_above}
use Rattle.hc_shape.proofs.Fences.{number_low, same_entries}
use Rattle.hc_shape.proofs.Members.{in_first, in_second}
use Rattle.hc_shape.proofs.Nodes.{entries_still, Extends, lows, next_low, node_still, one_level, parts_still, top_there, within_top}

-- the first of numbers that part all keys has the empty low fence
first_low : (low : ℕ → List ℕ) (ns : List ℕ) (n : ℕ) → ns ≡ n ∷ [] → PartsKeys low ns → low n ≡ []
first_low low ns n is parts = (subst (λ xs. PartsKeys low xs) is parts).0

module _ (node : ℕ → Content) (s : Shape) (k : ℕ) (key : List ℕ) (child first second : Logical) (left right top : Content) (h : Grows node s k key child first second left right top) where
  abbrev t : Shape
  t = grown_shape s first.0 second.0 right.low

  abbrev after : ℕ → Content
  after = but node 2 top

  abbrev pair : List ℕ
  pair = first.0 ∷ second.0 ∷ []

  abbrev level : ℕ
  level = s.level 2

  two_there : Among 2 (s.numbers level)
  two_there = top_there node s h.shape

  old : IsNode s level 2 (node 2)
  old = h.shape.nodes level 2 two_there

  sides : AreSides (record (node 2) { own = first }) second left right
  sides = h.grown.halved.sides

  -- the new numbers are none of those that there are
  not_first : (j m : ℕ) → Among m (s.numbers j) → first.0 ≢ m
  not_first j m there is = h.first_unreached j (subst (λ x. Among x (s.numbers j)) (sym is) there)

  not_second : (j m : ℕ) → Among m (s.numbers j) → second.0 ≢ m
  not_second j m there is = h.second_unreached j (subst (λ x. Among x (s.numbers j)) (sym is) there)

  -- the levels: the pair, the top, and the others
  each_level : (P : ℕ → List ℕ → Type 0) → P level pair → P (suc level) (2 ∷ []) → ((j : ℕ) → level ≢ j → suc level ≢ j → P j (s.numbers j)) → (j : ℕ) → P j (t.numbers j)
  each_level P at_pair at_top others =
      each_but (but s.numbers level pair) (suc level) (2 ∷ []) P at_top
      (λ j high. each_but s.numbers level pair (λ i ns. suc level ≢ i → P i ns) (λ differ. at_pair) (λ i low differ. others i low differ) j high)

  on_pair : t.numbers level ≡ pair
  on_pair = but-other (but s.numbers level pair) (suc level) level (2 ∷ []) (λ e. absurd (omega (arith, e))) ∙ but-same s.numbers level pair

  on_top : t.numbers (suc level) ≡ 2 ∷ []
  on_top = but-same (but s.numbers level pair) (suc level) (2 ∷ [])

  elsewhere : (j : ℕ) → level ≢ j → suc level ≢ j → t.numbers j ≡ s.numbers j
  elsewhere j low high = but-other (but s.numbers level pair) (suc level) j (2 ∷ []) high ∙ but-other s.numbers level j pair low

  -- low fences
  lows_stay : (j m : ℕ) → Among m (s.numbers j) → t.low m ≡ s.low m
  lows_stay j m there = but-other (but s.low first.0 []) second.0 m right.low (not_second j m there) ∙ but-other s.low first.0 m [] (not_first j m there)

  low_first : t.low first.0 ≡ []
  low_first = but-other (but s.low first.0 []) second.0 first.0 right.low (λ e. h.apart (sym e)) ∙ but-same s.low first.0 []

  low_second : t.low second.0 ≡ right.low
  low_second = but-same (but s.low first.0 []) second.0 right.low

  low_top : s.low 2 ≡ []
  low_top = first_low s.low (s.numbers level) 2 h.shape.top (h.shape.parts level (omega arith))

  -- levels
  level_top : t.level 2 ≡ suc level
  level_top = but-same (but (but s.level first.0 level) second.0 level) 2 (suc level)

  level_first : t.level first.0 ≡ level
  level_first =
      but-other (but (but s.level first.0 level) second.0 level) 2 first.0 (suc level) (λ e. not_first level 2 two_there (sym e))
      ∙ but-other (but s.level first.0 level) second.0 first.0 level (λ e. h.apart (sym e)) ∙ but-same s.level first.0 level

  level_second : t.level second.0 ≡ level
  level_second =
      but-other (but (but s.level first.0 level) second.0 level) 2 second.0 (suc level) (λ e. not_second level 2 two_there (sym e))
      ∙ but-same (but s.level first.0 level) second.0 level

  level_stays : (j m : ℕ) → Among m (s.numbers j) → m ≢ 2 → t.level m ≡ s.level m
  level_stays j m there differ =
      but-other (but (but s.level first.0 level) second.0 level) 2 m (suc level) (λ e. differ (sym e))
      ∙ but-other (but s.level first.0 level) second.0 m level (not_second j m there) ∙ but-other s.level first.0 m level (not_first j m there)

  extends : Extends s t
  extends = record {
    kept = λ j m less there. subst (λ ns. Among m ns) (sym (elsewhere j (λ e. absurd (omega (arith, e, less))) (λ e. absurd (omega (arith, e, less))))) there;
    low = lows_stay;
  }

  -- nothing is to the right of the old top
  alone : next_of (s.numbers level) 2 ≡ None
  alone = ap (λ ns. next_of ns 2) h.shape.top

  no_link : linked (node 2).right ≡ None
  no_link = old.right ∙ alone

  no_end : (node 2).high ≡ None
  no_end = old.high ∙ ap (low_of s.low) alone

  -- the children of both halves
  children : (es : List Entry) → ((x : Entry) → Among x es → Among x (left.entries ++ right.entries)) → AreEntriesAt t level es
  children es within =
      entries_still s t level es extends (omega arith)
      (subst (λ j. AreEntriesAt s j es) (sym h.level)
      (names_all node s h.shape k 2 key child (subst (λ j. Among 2 (s.numbers j)) h.level two_there) h.is_child es
      (λ x among. subst (λ xs. Among x xs) h.grown.halved.all (within x among)))
      )

  next_first : next_of (t.numbers level) first.0 ≡ Some second.0
  next_first = ap (λ ns. next_of ns first.0) on_pair ∙ ap (λ b. cond b (Some second.0) (next_of (second.0 ∷ []) first.0)) (eq-eqb first.0 first.0 refl)

  next_second : next_of (t.numbers level) second.0 ≡ None
  next_second =
      ap (λ ns. next_of ns second.0) on_pair ∙ ap (λ b. cond b (Some second.0) (next_of (second.0 ∷ []) second.0)) (ne_eqb first.0 second.0 h.apart)
      ∙ ap (λ b. cond b None None) (eq-eqb second.0 second.0 refl)

  first_node : IsNode t level first.0 left
  first_node = record {
    content = h.left_content;
    own = ap (λ (c : Content). c.own.0) sides.left_is;
    level = ap (λ (c : Content). c.level) sides.left_is ∙ old.level;
    low = ap (λ (c : Content). c.low) sides.left_is ∙ old.low ∙ low_top ∙ sym low_first;
    right = ap (λ (c : Content). linked c.right) sides.left_is ∙ sym next_first;
    high = ap (λ (c : Content). c.high) sides.left_is ∙ sym (ap (low_of t.low) next_first ∙ ap Some low_second);
    entries = children left.entries (λ x among. in_first left.entries right.entries x among);
    two = λ inner less. h.grown.halved.two.0;
  }

  second_node : IsNode t level second.0 right
  second_node = record {
    content = h.right_content;
    own = ap (λ (c : Content). c.own.0) sides.right_is;
    level = ap (λ (c : Content). c.level) sides.right_is ∙ old.level;
    low = sym low_second;
    right = ap (λ (c : Content). linked c.right) sides.right_is ∙ no_link ∙ sym next_second;
    high = ap (λ (c : Content). c.high) sides.right_is ∙ no_end ∙ sym (ap (low_of t.low) next_second);
    entries = children right.entries (λ x among. in_second left.entries right.entries x among);
    two = λ inner less. h.grown.halved.two.1;
  }

  both_children : All (λ (e : Entry). Names t level e.key e.held) (child_of (node 2).low first ∷ child_of right.low second ∷ [])
  both_children =
      All-cons (λ (e : Entry). Names t level e.key e.held) (child_of (node 2).low first) (child_of right.low second ∷ [])
      (subst (λ ns. Among first.0 ns) (sym on_pair) (inl refl), low_first ∙ sym (old.low ∙ low_top))
      (All-cons (λ (e : Entry). Names t level e.key e.held) (child_of right.low second) []
      (subst (λ ns. Among second.0 ns) (sym on_pair) (inr (inl refl)), low_second) (All-nil (λ (e : Entry). Names t level e.key e.held))
      )

  top_alone : next_of (t.numbers (suc level)) 2 ≡ None
  top_alone = ap (λ ns. next_of ns 2) on_top

  top_node : IsNode t (suc level) 2 top
  top_node = record {
    content = h.top_content;
    own = ap (λ (c : Content). c.own.0) h.grown.is ∙ old.own;
    level = ap (λ (c : Content). c.level) h.grown.is ∙ ap suc old.level;
    low = ap (λ (c : Content). c.low) h.grown.is ∙ old.low ∙ sym (lows_stay level 2 two_there);
    right = ap (λ (c : Content). linked c.right) h.grown.is ∙ no_link ∙ sym top_alone;
    high = ap (λ (c : Content). c.high) h.grown.is ∙ no_end ∙ sym (ap (low_of t.low) top_alone);
    entries = subst (λ es. AreEntriesAt t (suc level) es) (sym (ap (λ (c : Content). c.entries) h.grown.is)) both_children;
    two = λ inner less. absurd (omega (arith, less, level_top));
  }

  -- the new numbers have their pages still
  first_page : after first.0 ≡ left
  first_page = but-other node 2 first.0 top (λ e. not_first level 2 two_there (sym e)) ∙ h.first_mapped

  second_page : after second.0 ≡ right
  second_page = but-other node 2 second.0 top (λ e. not_second level 2 two_there (sym e)) ∙ h.second_mapped

  on_pair_nodes : (m : ℕ) → Among m pair → IsNode t level m (after m)
  on_pair_nodes m (inl is) = subst (λ x. IsNode t level x (after x)) (sym is) (subst (λ c. IsNode t level first.0 c) (sym first_page) first_node)
  on_pair_nodes m (inr (inl is)) = subst (λ x. IsNode t level x (after x)) (sym is) (subst (λ c. IsNode t level second.0 c) (sym second_page) second_node)
  on_pair_nodes m (inr (inr none)) = absurd none

  on_top_nodes : (m : ℕ) → Among m (2 ∷ []) → IsNode t (suc level) m (after m)
  on_top_nodes m (inl is) = subst (λ x. IsNode t (suc level) x (after x)) (sym is) (subst (λ c. IsNode t (suc level) 2 c) (sym (but-same node 2 top)) top_node)
  on_top_nodes m (inr none) = absurd none

  not_top : (j m : ℕ) → level ≢ j → Among m (s.numbers j) → 2 ≢ m
  not_top j m low there is = low (one_level node s h.shape level j m (subst (λ x. Among x (s.numbers level)) is two_there) there)

  other_nodes : (j m : ℕ) → level ≢ j → t.numbers j ≡ s.numbers j → Among m (s.numbers j) → IsNode t j m (after m)
  other_nodes j m low same there =
      subst (λ c. IsNode t j m c) (sym (but-other node 2 m top (not_top j m low there)))
      (node_still s t j m (node m) (h.shape.nodes j m there) extends (within_top node s h.shape j m there) (lows_stay j m there) (ap (λ ns. next_of ns m) same)
      (next_low s.low t.low (s.numbers j) m (lows node s h.shape j m there) (λ i on. lows_stay j i on))
      (λ less. below_old (within_top node s h.shape j m there))
      )
    where
      below_old : j ≤ s.level 2 → j < s.level 2
      below_old within = omega (arith, within, low)

  nodes_after : (j m : ℕ) → Among m (t.numbers j) → IsNode t j m (after m)
  nodes_after j m there =
      each_level (λ i ns. t.numbers i ≡ ns → (x : ℕ) → Among x ns → IsNode t i x (after x)) (λ is x on. on_pair_nodes x on) (λ is x on. on_top_nodes x on)
      (λ i low high is x on. other_nodes i x low is on) j refl m there

  levels_after : (j m : ℕ) → Among m (t.numbers j) → t.level m ≡ j
  levels_after j m there =
      each_level (λ i ns. (x : ℕ) → Among x ns → t.level x ≡ i) pair_levels top_level
      (λ i low high x on. level_stays i x on (λ e. not_top i x low on (sym e)) ∙ h.shape.levels i x on) j m there
    where
      pair_levels : (x : ℕ) → Among x pair → t.level x ≡ level
      pair_levels x (inl is) = ap t.level is ∙ level_first
      pair_levels x (inr (inl is)) = ap t.level is ∙ level_second
      pair_levels x (inr (inr none)) = absurd none

      top_level : (x : ℕ) → Among x (2 ∷ []) → t.level x ≡ suc level
      top_level x (inl is) = ap t.level is ∙ level_top
      top_level x (inr none) = absurd none

  cut_key : IsBelow [] right.low
  cut_key =
      subst (λ l. IsBelow l right.low) (old.low ∙ low_top)
      (cut_above (record (node 2) { own = first }) second left right sides h.left_content (omega (arith, h.grown.halved.two.0)))

  pair_parts : PartsKeys t.low pair
  pair_parts = (
    low_first,
    (
      All-cons (λ other. IsBelow (t.low first.0) other) (t.low second.0) []
          (subst (λ l. IsBelow l (t.low second.0)) (sym low_first) (subst (λ l. IsBelow [] l) (sym low_second) cut_key))
          (All-nil (λ other. IsBelow (t.low first.0) other)),
      (All-nil (λ other. IsBelow (t.low second.0) other), tt),
    ),
  )

  top_parts : PartsKeys t.low (2 ∷ [])
  top_parts = (lows_stay level 2 two_there ∙ low_top, (All-nil (λ other. IsBelow (t.low 2) other), tt))

  pub grown_is_shape : IsShape after t
  grown_is_shape = record {
    first = ap first_of (elsewhere 0 (λ e. absurd (omega (arith, e, h.shape.inner))) (λ e. absurd (omega (arith, e)))) ∙ h.shape.first;
    inner = omega (arith, level_top);
    top = ap t.numbers level_top ∙ on_top;
    above = λ j over.
        elsewhere j (λ e. absurd (omega (arith, e, over, level_top))) (λ e. absurd (omega (arith, e, over, level_top))) ∙ h.shape.above j (omega (arith, over, level_top));
    parts = λ j within.
        each_level (λ i ns. i ≤ suc level → PartsKeys t.low ns) (λ inside. pair_parts) (λ inside. top_parts)
        (λ i low high inside. parts_still s.low t.low (s.numbers i) (λ m on. lows_stay i m on) (h.shape.parts i (omega (arith, low, high, inside)))) j
        (omega (arith, within, level_top));
    levels = levels_after;
    nodes = nodes_after;
  }

  reached_after : (m : ℕ) → IsReached s m → (2 ≡ m) ⊎ (2 ≢ m) → IsReached t m
  reached_after m there (inl is) =
      subst (λ x. Among x (t.numbers (t.level x))) is (subst (λ j. Among 2 (t.numbers j)) (sym level_top) (subst (λ ns. Among 2 ns) (sym on_top) (inl refl)))
  reached_after m there (inr differ) =
      subst (λ j. Among m (t.numbers j)) (sym (level_stays (s.level m) m there (λ e. differ (sym e))))
      (extends.kept (s.level m) m (below_top (within_top node s h.shape (s.level m) m there)) there)
    where
      not_alone : level ≡ s.level m → ⊥
      not_alone e = other (subst (λ ns. Among m ns) (ap s.numbers (sym e) ∙ h.shape.top) there)
        where
          other : Among m (2 ∷ []) → ⊥
          other (inl is) = differ (sym is)
          other (inr none) = none

      below_top : s.level m ≤ s.level 2 → s.level m < s.level 2
      below_top within = ⊎_elim (λ (e : level ≡ s.level m). absurd (not_alone e)) (λ (apart : level ≢ s.level m). omega (arith, within, apart)) (cases_eq level (s.level m))

  pub grown_stays : Stays s t
  grown_stays = record {
    reached = λ m there. reached_after m there (cases_eq 2 m);
    low = λ m there. lows_stay (s.level m) m there;
    level = λ m there differ. level_stays (s.level m) m there differ;
    top = omega (arith, level_top);
  }

  pub grown_entries : (at : List ℕ) → entry_of after t at ≡ entry_of node s at
  grown_entries =
      same_entries node s h.shape after t
      (λ at. ap (λ ns. number_of t.low at ns) (elsewhere 0 (λ e. absurd (omega (arith, e, h.shape.inner))) (λ e. absurd (omega (arith, e))))
      ∙ number_low s.low t.low at (s.numbers 0) (λ m leaf. lows_stay 0 m leaf))
      (λ m leaf. but-other node 2 m top (not_top 0 m (λ e. absurd (omega (arith, e, h.shape.inner))) leaf))
