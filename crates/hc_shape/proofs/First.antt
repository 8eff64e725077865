-- The shape of the two pages at the start.
use Rattle.std.proofs.Common.{◌≡◌, refl, sym, ap, ◌∙◌, subst, ℕ, zero, suc, ◌<◌, ◌≤◌, [], ◌∷◌, inl, inr, arith}
use Rattle.std.proofs.lemmas.List.Elements.{All-cons, All-nil}
use Rattle.hc_range.specs.Order.{IsBelow}
use Rattle.hc_base.specs.Content.{Child, Content, Entry}
use Rattle.hc_base.specs.Lookup.{Among}
use Rattle.hc_base.proofs.Lookups.{but-other, but-same}
use Rattle.hc_page.proofs.Open.{empty_content, inner_content}
use Rattle.hc_shape.specs.Changes.{first_leaf, first_numbers, first_shape, first_top}
use Rattle.hc_shape.specs.Halves.{IsSmall}
use Rattle.hc_shape.specs.Shape.{IsNode, IsShape, Names, PartsKeys}

-- the top's level, and the leaf's
level_two : first_shape.level 2 ≡ 1
level_two = but-same (λ n. 0) 2 1

level_one : first_shape.level 1 ≡ 0
level_one = but-other (λ n. 0) 2 1 1 (λ e. absurd (omega (arith, e)))

leaf_node : IsNode first_shape 0 1 first_leaf
leaf_node = record {
  content = empty_content;
  own = refl;
  level = refl;
  low = refl;
  right = refl;
  high = refl;
  entries = All-nil IsSmall;
  two = λ inner less. absurd (omega (arith, inner));
}

top_node : IsNode first_shape 1 2 first_top
top_node = record {
  content = inner_content;
  own = refl;
  level = refl;
  low = refl;
  right = refl;
  high = refl;
  entries =
      All-cons (λ (e : Entry). Names first_shape 0 e.key e.held) (record { key = []; held = Child (record { 0 = 1 }) }) [] (inl refl, refl)
      (All-nil (λ (e : Entry). Names first_shape 0 e.key e.held));
  two = λ inner less. absurd (omega (arith, less, level_two));
}

-- a level of one number without a low fence parts all keys
one_parts : (n : ℕ) → PartsKeys first_shape.low (n ∷ [])
one_parts n = (refl, (All-nil (λ other. IsBelow [] other), tt))

parts_first : (k : ℕ) → k ≤ 1 → PartsKeys first_shape.low (first_numbers k)
parts_first zero within = one_parts 1
parts_first (suc zero) within = one_parts 2
parts_first (suc (suc k)) within = absurd (omega (arith, within))

above_first : (k : ℕ) → 1 < k → first_numbers k ≡ []
above_first zero over = absurd (omega (arith, over))
above_first (suc zero) over = absurd (omega (arith, over))
above_first (suc (suc k)) over = refl

levels_first : (k n : ℕ) → Among n (first_numbers k) → first_shape.level n ≡ k
levels_first zero n (inl is) = ap first_shape.level is ∙ level_one
levels_first zero n (inr none) = absurd none
levels_first (suc zero) n (inl is) = ap first_shape.level is ∙ level_two
levels_first (suc zero) n (inr none) = absurd none
levels_first (suc (suc k)) n none = absurd none

module _ (node : ℕ → Content) (leaf : node 1 ≡ first_leaf) (top : node 2 ≡ first_top) where
  nodes_first : (k n : ℕ) → Among n (first_numbers k) → IsNode first_shape k n (node n)
  nodes_first zero n (inl is) = subst (λ x. IsNode first_shape 0 x (node x)) (sym is) (subst (λ c. IsNode first_shape 0 1 c) (sym leaf) leaf_node)
  nodes_first zero n (inr none) = absurd none
  nodes_first (suc zero) n (inl is) = subst (λ x. IsNode first_shape 1 x (node x)) (sym is) (subst (λ c. IsNode first_shape 1 2 c) (sym top) top_node)
  nodes_first (suc zero) n (inr none) = absurd none
  nodes_first (suc (suc k)) n none = absurd none

  pub first_is_shape : IsShape node first_shape
  first_is_shape = record {
    first = refl;
    inner = omega (arith, level_two);
    top = ap first_numbers level_two;
    above = λ k over. above_first k (omega (arith, over, level_two));
    parts = λ k within. parts_first k (omega (arith, within, level_two));
    levels = levels_first;
    nodes = nodes_first;
  }
