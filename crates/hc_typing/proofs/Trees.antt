-- Expressions by their form: what a part makes of a level, after another function of the part; and the value of each form of a
-- bound expression.
use Rattle.std.proofs.Common.{◌≡◌, ◌∙◌, refl, sym, ap, ℕ, List, [], ◌∷◌, map, Bool, Some}
use Rattle.std.specs.Prelude.{slice_index_or}
use Rattle.std.specs.Option.{option_and_then}
use Rattle.hc_value.specs.declared.value.Value.{Value}
use Rattle.hc_value.specs.declared.value.Value.TheVariants.{Null}
use Rattle.hc_ast.specs.declared.operator.BinaryOp.{BinaryOp}
use Rattle.hc_ast.specs.declared.bound.Bound.{Bound}
use Rattle.hc_ast.specs.declared.bound.Bound.TheVariants as bound
use Rattle.hc_ast.specs.declared.bound.Bound.TheOpen.{Bound-F}
use Rattle.hc_ast.specs.declared.bound.Bound.TheFolds.{fold-roll-Bound}
use Rattle.hc_ast.specs.declared.expression.Expr.TheOpen.{Expr-F}
use Rattle.hc_ast.specs.declared.expression.Expr.TheFolds.{map-Expr}
use Rattle.hc_expr.specs.Arithmetic.{Outcome, magnitude, negative, whole}
use Rattle.hc_expr.specs.Logic.{negated_if, negation, truth_of}
use Rattle.hc_expr.specs.Values.{all_values, extent, first_value, is_among, is_between, level_value, likeness, of_both, operated, told, value_of}

-- ---- parts

pub mapped : {A B C : Type 0} (g : B → C) (f : A → B) (xs : List A) → map g (map f xs) ≡ map (λ x. g (f x)) xs
mapped g f [] = refl
mapped g f (x ∷ xs) = ap (λ ys. g (f x) ∷ ys) (mapped g f xs)

pub fused : {A B C : Type 0} (g : B → C) (f : A → B) (y : Expr-F A) → map-Expr B C g (map-Expr A B f y) ≡ map-Expr A C (λ x. g (f x)) y
fused g f (Expr-F.Value v) = refl
fused g f (Expr-F.Name source name) = refl
fused g f (Expr-F.Not of) = refl
fused g f (Expr-F.Minus of) = refl
fused g f (Expr-F.Plus of) = refl
fused g f (Expr-F.Binary operator left right) = refl
fused g f (Expr-F.OneOf is_negated left list) = ap (λ xs. Expr-F.OneOf is_negated (g (f left)) xs) (mapped g f list)
fused g f (Expr-F.Like is_negated left pattern) = refl
fused g f (Expr-F.Between is_negated left low high) = refl
fused g f (Expr-F.Call name args) = ap (λ xs. Expr-F.Call name xs) (mapped g f args)
fused g f (Expr-F.CallAll name) = refl

-- ---- values

module _ (row : List Value) where
  pub literal : (v : Value) → value_of row (bound.Value v) ≡ Some v
  literal v = ap (value_of row) (sym (bound.rolls-Value v)) ∙ fold-roll-Bound Outcome (level_value row) (Bound-F.Value v)

  pub column : (place : ℕ) → value_of row (bound.Column place) ≡ Some (slice_index_or row place Null)
  column place = ap (value_of row) (sym (bound.rolls-Column place)) ∙ fold-roll-Bound Outcome (level_value row) (Bound-F.Column place)

  pub not : (of : Bound) → value_of row (bound.Not of) ≡ option_and_then (λ v. told (negation (truth_of v))) (value_of row of)
  not of = ap (value_of row) (sym (bound.rolls-Not of)) ∙ fold-roll-Bound Outcome (level_value row) (Bound-F.Not of)

  pub minus : (of : Bound) → value_of row (bound.Minus of) ≡ option_and_then negative (value_of row of)
  minus of = ap (value_of row) (sym (bound.rolls-Minus of)) ∙ fold-roll-Bound Outcome (level_value row) (Bound-F.Minus of)

  pub plus : (of : Bound) → value_of row (bound.Plus of) ≡ option_and_then whole (value_of row of)
  plus of = ap (value_of row) (sym (bound.rolls-Plus of)) ∙ fold-roll-Bound Outcome (level_value row) (Bound-F.Plus of)

  pub binary : (o : BinaryOp) (l r : Bound) → value_of row (bound.Binary o l r) ≡ of_both (operated o) (value_of row l) (value_of row r)
  binary o l r = ap (value_of row) (sym (bound.rolls-Binary o l r)) ∙ fold-roll-Bound Outcome (level_value row) (Bound-F.Binary o l r)

  pub one_of : (n : Bool) (l : Bound) (list : List Bound)
      → value_of row (bound.OneOf n l list) ≡ option_and_then (λ v. option_and_then (λ vs. told (negated_if n (is_among v vs))) (all_values (map (value_of row) list))) (value_of row l)
  one_of n l list = ap (value_of row) (sym (bound.rolls-OneOf n l list)) ∙ fold-roll-Bound Outcome (level_value row) (Bound-F.OneOf n l list)

  pub like : (n : Bool) (l p : Bound) → value_of row (bound.Like n l p) ≡ of_both (λ v w. told (negated_if n (likeness v w))) (value_of row l) (value_of row p)
  like n l p = ap (value_of row) (sym (bound.rolls-Like n l p)) ∙ fold-roll-Bound Outcome (level_value row) (Bound-F.Like n l p)

  pub between : (n : Bool) (t l h : Bound)
      → value_of row (bound.Between n t l h) ≡ option_and_then (λ v. of_both (λ a b. told (negated_if n (is_between v a b))) (value_of row l) (value_of row h)) (value_of row t)
  between n t l h = ap (value_of row) (sym (bound.rolls-Between n t l h)) ∙ fold-roll-Bound Outcome (level_value row) (Bound-F.Between n t l h)

  pub length : (of : Bound) → value_of row (bound.Length of) ≡ option_and_then extent (value_of row of)
  length of = ap (value_of row) (sym (bound.rolls-Length of)) ∙ fold-roll-Bound Outcome (level_value row) (Bound-F.Length of)

  pub abs : (of : Bound) → value_of row (bound.Abs of) ≡ option_and_then magnitude (value_of row of)
  abs of = ap (value_of row) (sym (bound.rolls-Abs of)) ∙ fold-roll-Bound Outcome (level_value row) (Bound-F.Abs of)

  pub coalesce : (list : List Bound) → value_of row (bound.Coalesce list) ≡ option_and_then (λ vs. Some (first_value vs)) (all_values (map (value_of row) list))
  coalesce list = ap (value_of row) (sym (bound.rolls-Coalesce list)) ∙ fold-roll-Bound Outcome (level_value row) (Bound-F.Coalesce list)
