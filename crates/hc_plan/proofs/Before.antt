-- An expression whose columns are all before an offset has the same value on rows that agree there: by its form.
use Rattle.std.proofs.Common.{◌≡◌, ◌∙◌, refl, sym, ap, subst, ℕ, ◌<◌, List, [], ◌∷◌, map, true, Some}
use Rattle.std.specs.Prelude.{◌&&◌, nat_lt}
use Rattle.std.specs.Option.{option_and_then}
use Rattle.std.proofs.lemmas.Bool.{and_parts, ltb-true}
use Rattle.hc_value.specs.declared.value.Value.{Value}
use Rattle.hc_ast.specs.declared.operator.BinaryOp.{BinaryOp}
use Rattle.hc_ast.specs.declared.operator.BinaryOp.TheVariants as op
use Rattle.hc_ast.specs.declared.bound.Bound.{Bound}
use Rattle.hc_ast.specs.declared.bound.Bound.TheOpen.{Bound-F}
use Rattle.hc_ast.specs.declared.bound.Bound.TheViews.{roll-Bound}
use Rattle.hc_ast.specs.declared.bound.Bound.TheFolds.{fold-roll-Bound, ind-Bound, map-Bound}
use Rattle.hc_expr.specs.Arithmetic.{Outcome}
use Rattle.hc_expr.specs.Values.{value_of, level_value, all_values, first_value, of_both, is_among, told}
use Rattle.hc_expr.specs.Logic.{negated_if}
use Rattle.hc_schema.specs.Paths.{Facts, facts, level_facts, all_before}
use Rattle.hc_plan.specs.Rows.{AgreeBefore}

-- both parts are before where the operator's expression is
both_before : (operator : BinaryOp) (offset : ℕ) (l r : Facts) → (level_facts offset (Bound-F.Binary operator l r)).before ≡ true → (l.before ≡ true) × (r.before ≡ true)
both_before op.Or offset l r h = and_parts l.before r.before h
both_before op.And offset l r h = and_parts l.before r.before h
both_before op.Eq offset l r h = and_parts l.before r.before h
both_before op.Ne offset l r h = and_parts l.before r.before h
both_before op.Is offset l r h = and_parts l.before r.before h
both_before op.IsNot offset l r h = and_parts l.before r.before h
both_before op.Lt offset l r h = and_parts l.before r.before h
both_before op.Le offset l r h = and_parts l.before r.before h
both_before op.Gt offset l r h = and_parts l.before r.before h
both_before op.Ge offset l r h = and_parts l.before r.before h
both_before op.Add offset l r h = and_parts l.before r.before h
both_before op.Sub offset l r h = and_parts l.before r.before h
both_before op.Mul offset l r h = and_parts l.before r.before h
both_before op.Div offset l r h = and_parts l.before r.before h
both_before op.Rem offset l r h = and_parts l.before r.before h
both_before op.Concat offset l r h = and_parts l.before r.before h

-- a part's function after another one
fused_list : {A B C : Type 0} (g : B → C) (f : A → B) (xs : List A) → map g (map f xs) ≡ map (λ x. g (f x)) xs
fused_list g f [] = refl
fused_list g f (x ∷ xs) = ap (λ ys. g (f x) ∷ ys) (fused_list g f xs)

fused : {A B C : Type 0} (g : B → C) (f : A → B) (y : Bound-F A) → map-Bound B C g (map-Bound A B f y) ≡ map-Bound A C (λ x. g (f x)) y
fused g f (Bound-F.Value v) = refl
fused g f (Bound-F.Column place) = refl
fused g f (Bound-F.Not of) = refl
fused g f (Bound-F.Minus of) = refl
fused g f (Bound-F.Plus of) = refl
fused g f (Bound-F.Binary operator left right) = refl
fused g f (Bound-F.OneOf is_negated left list) = ap (λ xs. Bound-F.OneOf is_negated (g (f left)) xs) (fused_list g f list)
fused g f (Bound-F.Like is_negated left pattern) = refl
fused g f (Bound-F.Between is_negated left low high) = refl
fused g f (Bound-F.Length of) = refl
fused g f (Bound-F.Abs of) = refl
fused g f (Bound-F.Coalesce list) = ap (λ xs. Bound-F.Coalesce xs) (fused_list g f list)

module _ (offset : ℕ) (row other : List Value) (agree : AgreeBefore offset row other) where
  abbrev IsDecided : Bound → Type 0
  IsDecided e = (facts offset e).before ≡ true → value_of row e ≡ value_of other e

  abbrev Part : Type 0
  Part = (e : Bound) × IsDecided e

  abbrev whole : Bound-F Part → Bound
  whole y = roll-Bound (map-Bound Part Bound (λ e. e.0) y)

  -- the facts and the value of an expression of these parts
  abbrev seen : Bound-F Part → Facts
  seen y = level_facts offset (map-Bound Part Facts (λ e. facts offset e.0) y)

  abbrev valued : List Value → Bound-F Part → Outcome
  valued at y = level_value at (map-Bound Part Outcome (λ e. value_of at e.0) y)

  -- the parts of a list have the same values
  all_same : (es : List Part) → all_before (map (λ (e : Part). facts offset e.0) es) ≡ true
      → all_values (map (λ (e : Part). value_of row e.0) es) ≡ all_values (map (λ (e : Part). value_of other e.0) es)
  all_same [] h = refl
  all_same (e ∷ es) h =
      let both = and_parts (facts offset e.0).before (all_before (map (λ (p : Part). facts offset p.0) es)) h in
      ap (λ o. option_and_then (λ v. option_and_then (λ vs. Some (v ∷ vs)) (all_values (map (λ (p : Part). value_of row p.0) es))) o) (e.1 both.0)
      ∙ ap (λ o. option_and_then (λ v. option_and_then (λ vs. Some (v ∷ vs)) o) (value_of other e.0)) (all_same es both.1)

  two : (f : Value → Value → Outcome) (a b : Part) → (facts offset a.0).before ≡ true → (facts offset b.0).before ≡ true
      → of_both f (value_of row a.0) (value_of row b.0) ≡ of_both f (value_of other a.0) (value_of other b.0)
  two f a b first second = ap (λ o. of_both f o (value_of row b.0)) (a.1 first) ∙ ap (λ o. of_both f (value_of other a.0) o) (b.1 second)

  -- one level over parts with the same values
  level : (y : Bound-F Part) → (seen y).before ≡ true → valued row y ≡ valued other y
  level (Bound-F.Value v) h = refl
  level (Bound-F.Column place) h = ap Some (agree place (lt_of place offset h))
    where
      lt_of : (m n : ℕ) → nat_lt m n ≡ true → m < n
      lt_of m n h = ltb-true m n h
  level (Bound-F.Not of) h = ap (λ o. level_value row (Bound-F.Not o)) (of.1 h)
  level (Bound-F.Minus of) h = ap (λ o. level_value row (Bound-F.Minus o)) (of.1 h)
  level (Bound-F.Plus of) h = ap (λ o. level_value row (Bound-F.Plus o)) (of.1 h)
  level (Bound-F.Binary operator left right) h =
      let both = both_before operator offset (facts offset left.0) (facts offset right.0) h in
      ap (λ o. level_value row (Bound-F.Binary operator o (value_of row right.0))) (left.1 both.0) ∙ ap (λ o. level_value row (Bound-F.Binary operator (value_of other left.0) o)) (right.1 both.1)
  level (Bound-F.OneOf is_negated left list) h =
      let both = and_parts (facts offset left.0).before (all_before (map (λ (e : Part). facts offset e.0) list)) h in
      ap (λ o. level_value row (Bound-F.OneOf is_negated o (map (λ (e : Part). value_of row e.0) list))) (left.1 both.0)
      ∙ ap (λ o. option_and_then (λ v. option_and_then (λ vs. told (negated_if is_negated (is_among v vs))) o) (value_of other left.0)) (all_same list both.1)
  level (Bound-F.Like is_negated left pattern) h =
      let both = and_parts (facts offset left.0).before (facts offset pattern.0).before h in
      ap (λ o. level_value row (Bound-F.Like is_negated o (value_of row pattern.0))) (left.1 both.0) ∙ ap (λ o. level_value row (Bound-F.Like is_negated (value_of other left.0) o)) (pattern.1 both.1)
  level (Bound-F.Between is_negated left low high) h =
      let outer = and_parts (facts offset left.0).before ((facts offset low.0).before && (facts offset high.0).before) h in
      let both = and_parts (facts offset low.0).before (facts offset high.0).before outer.1 in
      ap (λ o. level_value row (Bound-F.Between is_negated o (value_of row low.0) (value_of row high.0))) (left.1 outer.0)
      ∙ ap (λ o. level_value row (Bound-F.Between is_negated (value_of other left.0) o (value_of row high.0))) (low.1 both.0)
      ∙ ap (λ o. level_value row (Bound-F.Between is_negated (value_of other left.0) (value_of other low.0) o)) (high.1 both.1)
  level (Bound-F.Length of) h = ap (λ o. level_value row (Bound-F.Length o)) (of.1 h)
  level (Bound-F.Abs of) h = ap (λ o. level_value row (Bound-F.Abs o)) (of.1 h)
  level (Bound-F.Coalesce list) h = ap (λ o. option_and_then (λ vs. Some (first_value vs)) o) (all_same list h)

  step : (y : Bound-F Part) → IsDecided (whole y)
  step y h = value row ∙ (level y (ap (λ f. f.before) (sym facts_are) ∙ h) ∙ sym (value other))
    where
      facts_are : facts offset (whole y) ≡ seen y
      facts_are = fold-roll-Bound Facts (level_facts offset) (map-Bound Part Bound (λ e. e.0) y) ∙ ap (level_facts offset) (fused (facts offset) (λ (e : Part). e.0) y)

      value : (at : List Value) → value_of at (whole y) ≡ valued at y
      value at = fold-roll-Bound Outcome (level_value at) (map-Bound Part Bound (λ e. e.0) y) ∙ ap (level_value at) (fused (value_of at) (λ (e : Part). e.0) y)

  pub decide : (e : Bound) → IsDecided e
  decide = ind-Bound IsDecided (λ x y is. subst (λ z. IsDecided (roll-Bound z)) is (step y))
