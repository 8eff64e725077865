-- An expression that is read on groups has NULL or a value of its class, by its form.
use Rattle.std.proofs.Common.{◌≡◌, ◌∙◌, ◌+◌, refl, sym, ap, subst, inl, inr, ℕ, List, map, length, Bool, true, false, Option, Some, None, Ok, Err}
use Rattle.std.specs.Option.{option_map}
use Rattle.hc_value.specs.declared.value.Value.{Value}
use Rattle.hc_value.specs.Order.{class_of}
use Rattle.hc_value.specs.declared.storage.Class.{Class}
use Rattle.hc_value.specs.declared.value.Value.TheVariants.{Null}
use Rattle.std.specs.Prelude.{slice_index_or}
use Rattle.hc_ast.specs.declared.bound.Bound.TheVariants as bound
use Rattle.hc_ast.specs.declared.expression.Expr.{Expr}
use Rattle.hc_ast.specs.declared.expression.Expr.TheOpen.{Expr-F}
use Rattle.hc_ast.specs.declared.expression.Expr.TheViews.{roll-Expr}
use Rattle.hc_ast.specs.declared.expression.Expr.TheFolds.{fold-roll-Expr, ind-Expr, map-Expr}
use Rattle.hc_schema.specs.declared.typed.Typed.{Typed}
use Rattle.hc_schema.specs.declared.typed.Computed.{Computed}
use Rattle.hc_schema.specs.Binding.Faults.{Judged, Misplaced, after}
use Rattle.hc_schema.specs.Binding.Functions.{function_of, is_aggregate, is_count}
use Rattle.hc_schema.specs.Binding.Scopes.{Scope, resolved, typed}
use Rattle.hc_schema.specs.Binding.Writing.{written, aggregate_written}
use Rattle.hc_schema.specs.Binding.Expressions.{Grouping, Reading, at_place, call_all_reading, call_reading, computed, count_all, group_or, grouped, is_aggregate_of, is_group, level_reading, on_rows, place_of, placed, reading_of, row_function}
use Rattle.hc_typing.specs.Rows.{IsOfClass}
use Rattle.hc_typing.specs.Groups.{FitsGroups, IsComputed}
use Rattle.hc_typing.proofs.Classes.{HasClass, arguments, between_has, binary_has, by_value, function_has, like_has, minus_has, not_has, one_of_has, plus_has}
use Rattle.hc_typing.proofs.Judgements.{each_is, first_of, is_ok}
use Rattle.hc_typing.proofs.Trees as tree
use Rattle.hc_typing.proofs.Trees.{fused, mapped}
use Rattle.hc_typing.proofs.Values.{always}

module _ (scope : Scope) (g : Grouping) (row : List Value) (row_fits : FitsGroups scope g row) where
  -- a value of the row of a group
  at : (k : ℕ) (c : Class) → IsOfClass c (slice_index_or row k Null) → HasClass row (typed (bound.Column k) c)
  at k c is = by_value row c (bound.Column k) _ (tree.column row k) (always c _ is)

  -- the expression as a whole is one of GROUP BY, or else it is what its parts make
  whole_has : (rows parts : Judged Typed) → ((t : Typed) (k : ℕ) → rows ≡ Ok t → place_of (is_group (written t.value)) g.groups ≡ Some k → IsOfClass t.class (slice_index_or row k Null))
      → ((t : Typed) → parts ≡ Ok t → HasClass row t) → (t : Typed) → group_or (grouped g rows) parts ≡ Ok t → HasClass row t
  whole_has (Err fault) parts first second t is = second t is
  whole_has (Ok u) parts first second t is = by (place_of (is_group (written u.value)) g.groups) refl is
    where
      by : (o : Option ℕ) → place_of (is_group (written u.value)) g.groups ≡ o → group_or (option_map (λ k. typed (bound.Column k) u.class) o) parts ≡ Ok t → HasClass row t
      by None same said = second t said
      by (Some k) same said = subst (HasClass row) (is_ok said) (at k u.class (first u k refl same))

  -- an aggregate is its value
  placed_has : (c : Computed) → IsComputed scope c → (t : Typed) → placed g c ≡ Ok t → HasClass row t
  placed_has c is t said = by (place_of (is_aggregate_of (aggregate_written c.aggregate)) g.aggregates) refl said
    where
      by : (o : Option ℕ) → place_of (is_aggregate_of (aggregate_written c.aggregate)) g.aggregates ≡ o → at_place (length g.groups) c.class o ≡ Ok t → HasClass row t
      by None same told = cc
      by (Some k) same told = subst (HasClass row) (is_ok told) (at (length g.groups + k) c.class (row_fits.1 c k is same))

  abbrev IsGood : Expr → Type 0
  IsGood e = (t : Typed) → (reading_of scope e).on_groups g ≡ Ok t → HasClass row t

  abbrev Part : Type 0
  Part = (e : Expr) × IsGood e

  abbrev groups_of : Part → Judged Typed
  groups_of p = (reading_of scope p.0).on_groups g

  abbrev level : Expr-F Part → Reading
  level y = level_reading scope (map-Expr Part Reading (λ p. reading_of scope p.0) y)

  -- the arguments on rows, and on groups
  abbrev readings : List Part → List Reading
  readings args = map (λ (p : Part). reading_of scope p.0) args

  rows_fused : (args : List Part) → map (λ r. r.on_rows) (readings args) ≡ map (on_rows scope) (map (λ (p : Part). p.0) args)
  rows_fused args = mapped (λ r. r.on_rows) (λ (p : Part). reading_of scope p.0) args ∙ sym (mapped (on_rows scope) (λ (p : Part). p.0) args)

  groups_fused : (args : List Part) → map (λ r. r.on_groups g) (readings args) ≡ map groups_of args
  groups_fused args = mapped (λ r. r.on_groups g) (λ (p : Part). reading_of scope p.0) args

  called_good : (name : List ℕ) (args : List Part) (t : Typed) → row_function name (map (λ r. r.on_groups g) (readings args)) ≡ Ok t → HasClass row t
  called_good name args t is =
      function_has row name (map groups_of args) (λ ts all. arguments row groups_of (λ p. p.1) args ts (each_is (map groups_of args) ts all)) t (ap (row_function name) (sym (groups_fused args)) ∙ is)

  aggregate_good : (name : List ℕ) (args : List Part) (t : Typed) → after (computed name (map (λ r. r.on_rows) (readings args))) (placed g) ≡ Ok t → HasClass row t
  aggregate_good name args t is =
      let c = first_of (computed name (map (λ r. r.on_rows) (readings args))) (placed g) t is in
      placed_has c.0 (inr (name, map (λ (p : Part). p.0) args, ap (computed name) (sym (rows_fused args)) ∙ c.1)) t c.2

  -- on rows the whole is an expression of this scope
  abbrev Fits : Expr-F Part → Type 0
  Fits y = (t : Typed) (k : ℕ) → (level y).on_rows ≡ Ok t → place_of (is_group (written t.value)) g.groups ≡ Some k → IsOfClass t.class (slice_index_or row k Null)

  bare : (column : Judged Typed) (t : Typed) → (let none : Judged Typed = after column (λ u. Err Misplaced) in none) ≡ Ok t → HasClass row t
  bare (Ok u) t is = cc
  bare (Err fault) t is = cc

  good : (y : Expr-F Part) → Fits y → (t : Typed) → (level y).on_groups g ≡ Ok t → HasClass row t
  good (Expr-F.Value v) fits t is =
      whole_has _ _ fits (λ u said. subst (HasClass row) (is_ok said) (by_value row (class_of v) (bound.Value v) (Some v) (tree.literal row v) (always (class_of v) v (inr refl)))) t is
  good (Expr-F.Name source name) fits t is = whole_has _ _ fits (bare (resolved scope source name)) t is
  good (Expr-F.Not of) fits t is = whole_has _ _ fits (not_has row (groups_of of)) t is
  good (Expr-F.Minus of) fits t is = whole_has _ _ fits (minus_has row (groups_of of)) t is
  good (Expr-F.Plus of) fits t is = whole_has _ _ fits (plus_has row (groups_of of)) t is
  good (Expr-F.Binary o l r) fits t is = whole_has _ _ fits (binary_has row o (groups_of l) (groups_of r)) t is
  good (Expr-F.OneOf n l list) fits t is = whole_has _ _ fits (one_of_has row n (groups_of l) (map (λ r. r.on_groups g) (readings list))) t is
  good (Expr-F.Like n l p) fits t is = whole_has _ _ fits (like_has row n (groups_of l) (groups_of p)) t is
  good (Expr-F.Between n x l h) fits t is = whole_has _ _ fits (between_has row n (groups_of x) (groups_of l) (groups_of h)) t is
  good (Expr-F.Call name args) fits t is = by (is_aggregate (function_of name)) fits is
    where
      by : (b : Bool) → ((u : Typed) (k : ℕ) → (call_reading b name (readings args)).on_rows ≡ Ok u → place_of (is_group (written u.value)) g.groups ≡ Some k → IsOfClass u.class (slice_index_or row k Null))
          → (call_reading b name (readings args)).on_groups g ≡ Ok t → HasClass row t
      by true whole said = whole_has _ _ whole (aggregate_good name args) t said
      by false whole said = whole_has _ _ whole (called_good name args) t said
  good (Expr-F.CallAll name) fits t is = by (is_count (function_of name)) is
    where
      by : (b : Bool) → (call_all_reading b name).on_groups g ≡ Ok t → HasClass row t
      by true said = placed_has count_all (inl refl) t said
      by false said = cc

  pub has_class_on_groups : (e : Expr) → IsGood e
  has_class_on_groups = ind-Expr IsGood (λ x y is. subst (λ z. IsGood (roll-Expr z)) is (step y))
    where
      same : (y : Expr-F Part) → level y ≡ reading_of scope (roll-Expr (map-Expr Part Expr (λ p. p.0) y))
      same y = sym (fold-roll-Expr Reading (level_reading scope) (map-Expr Part Expr (λ p. p.0) y) ∙ ap (level_reading scope) (fused (reading_of scope) (λ (p : Part). p.0) y))

      step : (y : Expr-F Part) → IsGood (roll-Expr (map-Expr Part Expr (λ p. p.0) y))
      step y t said =
          good y (λ u k is place. row_fits.0 (roll-Expr (map-Expr Part Expr (λ p. p.0) y)) u k (ap (λ r. r.on_rows) (sym (same y)) ∙ is) place) t
          (ap (λ r. r.on_groups g) (same y) ∙ said)
