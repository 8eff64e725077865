-- A bound expression has the same value on rows with the same values in the places of columns in scope, by its form.
use Rattle.std.proofs.Common.{◌≡◌, ◌∙◌, refl, sym, ap, subst, ℕ, List, [], ◌∷◌, map, Bool, true, false, Option, Some, None, Ok}
use Rattle.hc_value.specs.declared.storage.Class.{Class}
use Rattle.hc_value.specs.declared.storage.Class.TheVariants as class
use Rattle.hc_value.specs.declared.value.Value.{Value}
use Rattle.hc_ast.specs.declared.operator.BinaryOp.{BinaryOp}
use Rattle.hc_ast.specs.declared.bound.Bound.{Bound}
use Rattle.hc_ast.specs.declared.bound.Bound.TheVariants as bound
use Rattle.hc_ast.specs.declared.expression.Expr.{Expr}
use Rattle.hc_ast.specs.declared.expression.Expr.TheOpen.{Expr-F}
use Rattle.hc_ast.specs.declared.expression.Expr.TheViews.{roll-Expr}
use Rattle.hc_ast.specs.declared.expression.Expr.TheFolds.{fold-roll-Expr, ind-Expr, map-Expr}
use Rattle.hc_expr.specs.Arithmetic.{Outcome, magnitude, negative, whole}
use Rattle.hc_expr.specs.Logic.{negated_if, negation, truth_of}
use Rattle.hc_expr.specs.Values.{all_values, extent, first_value, is_among, is_between, likeness, of_both, operated, told, value_of}
use Rattle.std.specs.Option.{option_and_then}
use Rattle.hc_schema.specs.declared.typed.Typed.{Typed}
use Rattle.hc_schema.specs.declared.typed.Function.{Function}
use Rattle.hc_schema.specs.declared.typed.Function.TheVariants.{Length, Abs, Coalesce, Over}
use Rattle.hc_schema.specs.declared.typed.Called.{Called}
use Rattle.hc_schema.specs.Binding.Classes.{fits, one_class, operator_class, result_if}
use Rattle.hc_schema.specs.Binding.Classes as classes
use Rattle.hc_schema.specs.Binding.Faults.{Judged, after, each}
use Rattle.hc_schema.specs.Binding.Functions.{function_of, is_aggregate, is_count}
use Rattle.hc_schema.specs.Binding.Scopes.{Scope, typed}
use Rattle.hc_schema.specs.Binding.Expressions.{Reading, applied, between, binary, call_all_reading, call_reading, called, called_among, counted, level_reading, like, made, one_of, on_rows, reading_of, row_call, row_function, row_value, unary, values_of}
use Rattle.hc_typing.specs.Rows.{AgreeInScope}
use Rattle.hc_typing.proofs.Judgements.{each_is, first_of, is_ok, made_of}
use Rattle.hc_typing.proofs.Classes.{counted_is, name_is}
use Rattle.hc_typing.proofs.Trees as tree
use Rattle.hc_typing.proofs.Trees.{fused, mapped}

module _ (scope : Scope) (row other : List Value) (agree : AgreeInScope scope row other) where
  abbrev IsSame : Bound → Type 0
  IsSame value = value_of row value ≡ value_of other value

  abbrev AllSame : List Typed → Type 0
  AllSame [] = Unit {0}
  AllSame (t ∷ ts) = IsSame t.value × AllSame ts

  abbrev IsSaid : Judged Typed → Type 0
  IsSaid j = (u : Typed) → j ≡ Ok u → IsSame u.value

  of_made : (one : Option Class) (value : Bound) (t : Typed) → made one value ≡ Ok t → IsSame value → IsSame t.value
  of_made one value t is same = let m = made_of one value t is in subst (λ (u : Typed). IsSame u.value) (sym m.2) same

  unary_same : (make : Bound → Bound) (f : Outcome → Outcome) (said : (at : List Value) (e : Bound) → value_of at (make e) ≡ f (value_of at e)) (of : Judged Typed) → IsSaid of → (t : Typed) → unary make of ≡ Ok t → IsSame t.value
  unary_same make f said of same t is =
      let first = first_of of (λ u. made (result_if (fits u.class class.Int) class.Int) (make u.value)) t is in
      of_made _ (make first.0.value) t first.2 (said row first.0.value ∙ (ap f (same first.0 first.1) ∙ sym (said other first.0.value)))

  both : (f : Value → Value → Outcome) (a b : Bound) → IsSame a → IsSame b → of_both f (value_of row a) (value_of row b) ≡ of_both f (value_of other a) (value_of other b)
  both f a b one two = ap (λ o. of_both f o (value_of row b)) one ∙ ap (λ o. of_both f (value_of other a) o) two

  binary_same : (o : BinaryOp) (l r : Judged Typed) → IsSaid l → IsSaid r → (t : Typed) → binary o l r ≡ Ok t → IsSame t.value
  binary_same o l r one two t is =
      let left = first_of l (λ a. after r (λ b. made (operator_class o a.class b.class) (bound.Binary o a.value b.value))) t is in
      let right = first_of r (λ b. made (operator_class o left.0.class b.class) (bound.Binary o left.0.value b.value)) t left.2 in
      of_made _ (bound.Binary o left.0.value right.0.value) t right.2
      (tree.binary row o left.0.value right.0.value ∙ (both (operated o) left.0.value right.0.value (one left.0 left.1) (two right.0 right.1) ∙ sym (tree.binary other o left.0.value right.0.value)))

  -- a list's values
  all_same : (ts : List Typed) → AllSame ts → map (value_of row) (values_of ts) ≡ map (value_of other) (values_of ts)
  all_same [] same = refl
  all_same (t ∷ ts) same = ap (λ o. o ∷ map (value_of row) (values_of ts)) same.0 ∙ ap (λ os. value_of other t.value ∷ os) (all_same ts same.1)

  one_of_same : (n : Bool) (l : Judged Typed) (list : List (Judged Typed)) → IsSaid l → ((ts : List Typed) → each list ≡ Ok ts → AllSame ts) → (t : Typed) → one_of n l list ≡ Ok t → IsSame t.value
  one_of_same n l list one many t is =
      let left = first_of l (λ a. after (each list) (λ ts. made (classes.compared (one_class a.class ts)) (bound.OneOf n a.value (values_of ts)))) t is in
      let others = first_of (each list) (λ ts. made (classes.compared (one_class left.0.class ts)) (bound.OneOf n left.0.value (values_of ts))) t left.2 in
      let f : List Outcome → Outcome → Outcome = λ os o. option_and_then (λ v. option_and_then (λ vs. told (negated_if n (is_among v vs))) (all_values os)) o in
      of_made _ (bound.OneOf n left.0.value (values_of others.0)) t others.2
      (tree.one_of row n left.0.value (values_of others.0)
      ∙ (ap (λ o. f (map (value_of row) (values_of others.0)) o) (one left.0 left.1)
      ∙ (ap (λ os. f os (value_of other left.0.value)) (all_same others.0 (many others.0 others.1))
      ∙ sym (tree.one_of other n left.0.value (values_of others.0)))))

  like_same : (n : Bool) (l p : Judged Typed) → IsSaid l → IsSaid p → (t : Typed) → like n l p ≡ Ok t → IsSame t.value
  like_same n l p one two t is =
      let left = first_of l (λ a. after p (λ b. made (classes.of_both class.Text a.class b.class class.Int) (bound.Like n a.value b.value))) t is in
      let right = first_of p (λ b. made (classes.of_both class.Text left.0.class b.class class.Int) (bound.Like n left.0.value b.value)) t left.2 in
      of_made _ (bound.Like n left.0.value right.0.value) t right.2
      (tree.like row n left.0.value right.0.value
      ∙ (both (λ v w. told (negated_if n (likeness v w))) left.0.value right.0.value (one left.0 left.1) (two right.0 right.1) ∙ sym (tree.like other n left.0.value right.0.value)))

  between_same : (n : Bool) (x l h : Judged Typed) → IsSaid x → IsSaid l → IsSaid h → (t : Typed) → between n x l h ≡ Ok t → IsSame t.value
  between_same n x l h one two three t is =
      let tested = first_of x (λ a. after l (λ b. after h (λ c. made (classes.compared (one_class a.class (b ∷ c ∷ []))) (bound.Between n a.value b.value c.value)))) t is in
      let low = first_of l (λ b. after h (λ c. made (classes.compared (one_class tested.0.class (b ∷ c ∷ []))) (bound.Between n tested.0.value b.value c.value))) t tested.2 in
      let high = first_of h (λ c. made (classes.compared (one_class tested.0.class (low.0 ∷ c ∷ []))) (bound.Between n tested.0.value low.0.value c.value)) t low.2 in
      let f : Outcome → Outcome → Outcome → Outcome = λ a b o. option_and_then (λ v. of_both (λ p q. told (negated_if n (is_between v p q))) a b) o in
      of_made _ (bound.Between n tested.0.value low.0.value high.0.value) t high.2
      (tree.between row n tested.0.value low.0.value high.0.value
      ∙ (ap (λ o. f (value_of row low.0.value) (value_of row high.0.value) o) (one tested.0 tested.1)
      ∙ (ap (λ o. f o (value_of row high.0.value) (value_of other tested.0.value)) (two low.0 low.1)
      ∙ (ap (λ o. f (value_of other low.0.value) o (value_of other tested.0.value)) (three high.0 high.1)
      ∙ sym (tree.between other n tested.0.value low.0.value high.0.value)))))

  -- ---- calls

  coalesce_same : (ts : List Typed) → AllSame ts → IsSame (bound.Coalesce (values_of ts))
  coalesce_same ts same =
      tree.coalesce row (values_of ts) ∙ (ap (λ os. option_and_then (λ vs. Some (first_value vs)) (all_values os)) (all_same ts same) ∙ sym (tree.coalesce other (values_of ts)))

  applied_same : (f : Function) (ts : List Typed) → AllSame ts → IsSame (applied f (values_of ts))
  applied_same Coalesce [] same = coalesce_same [] same
  applied_same Coalesce (t ∷ ts) same = coalesce_same (t ∷ ts) same
  applied_same Length [] same = coalesce_same [] same
  applied_same Length (t ∷ ts) same = tree.length row t.value ∙ (ap (option_and_then extent) same.0 ∙ sym (tree.length other t.value))
  applied_same Abs [] same = coalesce_same [] same
  applied_same Abs (t ∷ ts) same = tree.abs row t.value ∙ (ap (option_and_then magnitude) same.0 ∙ sym (tree.abs other t.value))
  applied_same (Over kind) [] same = coalesce_same [] same
  applied_same (Over kind) (t ∷ ts) same = coalesce_same (t ∷ ts) same

  -- of a function that counts its arguments
  all_same_of : (f : Function) (c : Class) (ts : List Typed) → AllSame ts → (t : Typed) → after (counted f ts) (λ us. Ok (typed (applied f (values_of us)) c)) ≡ Ok t → IsSame t.value
  all_same_of f c ts same t is =
      let all = first_of (counted f ts) (λ us. Ok (typed (applied f (values_of us)) c)) t is in
      subst (λ (u : Typed). IsSame u.value) (is_ok all.2) (subst (λ us. IsSame (applied f (values_of us))) (sym (counted_is f ts all.0 all.1)) (applied_same f ts same))

  call_same : (f : Function) (c : Class) (ts : List Typed) → AllSame ts → (t : Typed) → row_value ts f c ≡ Ok t → IsSame t.value
  call_same Length c ts same t is = all_same_of Length c ts same t is
  call_same Abs c ts same t is = all_same_of Abs c ts same t is
  call_same Coalesce c ts same t is = all_same_of Coalesce c ts same t is
  call_same (Over kind) c ts same t is = cc

  called_same : (f : Option Function) (name : List ℕ) (ts : List Typed) (c : Called) → called_among name f ts ≡ Ok c → AllSame ts → (t : Typed) → row_call ts c ≡ Ok t → IsSame t.value
  called_same None name ts c is same t said = cc
  called_same (Some f) name ts c is same t said = call_same c.function c.class ts same t said

  function_same : (name : List ℕ) (args : List (Judged Typed)) → ((ts : List Typed) → each args ≡ Ok ts → AllSame ts) → (t : Typed) → row_function name args ≡ Ok t → IsSame t.value
  function_same name args same t is =
      let all = first_of (each args) (λ ts. after (called name ts) (row_call ts)) t is in
      let call = first_of (called name all.0) (row_call all.0) t all.2 in
      called_same (function_of name) name all.0 call.0 call.1 (same all.0 all.1) t call.2

  -- ---- the induction

  abbrev IsGood : Expr → Type 0
  IsGood e = IsSaid (on_rows scope e)

  abbrev Part : Type 0
  Part = (e : Expr) × IsGood e

  abbrev rows_of : Part → Judged Typed
  rows_of p = on_rows scope p.0

  arguments : (args : List Part) (ts : List Typed) → map rows_of args ≡ map Ok ts → AllSame ts
  arguments args [] same = tt
  arguments [] (t ∷ ts) same = cc
  arguments (p ∷ args) (t ∷ ts) same = (p.1 t (head_is (rows_of p) (Ok t) (map rows_of args) (map Ok ts) same), arguments args ts (tail_is (rows_of p) (Ok t) (map rows_of args) (map Ok ts) same))
    where
      head_is : (a b : Judged Typed) (xs ys : List (Judged Typed)) → a ∷ xs ≡ b ∷ ys → a ≡ b
      head_is a b xs ys is = cc

      tail_is : (a b : Judged Typed) (xs ys : List (Judged Typed)) → a ∷ xs ≡ b ∷ ys → xs ≡ ys
      tail_is a b xs ys is = cc

  abbrev readings : List Part → List Reading
  readings args = map (λ (p : Part). reading_of scope p.0) args

  many : (args : List Part) (ts : List Typed) → each (map (λ r. r.on_rows) (readings args)) ≡ Ok ts → AllSame ts
  many args ts all = arguments args ts (each_is (map rows_of args) ts (ap each (sym (mapped (λ r. r.on_rows) (λ (p : Part). reading_of scope p.0) args)) ∙ all))

  abbrev level : Expr-F Part → Reading
  level y = level_reading scope (map-Expr Part Reading (λ p. reading_of scope p.0) y)

  good : (y : Expr-F Part) (t : Typed) → (level y).on_rows ≡ Ok t → IsSame t.value
  good (Expr-F.Value v) t is = subst (λ (u : Typed). IsSame u.value) (is_ok is) (tree.literal row v ∙ sym (tree.literal other v))
  good (Expr-F.Name source name) t is =
      let slot = name_is scope source name t is in
      subst (λ (u : Typed). IsSame u.value) (sym slot.2) (tree.column row slot.0.place ∙ (ap Some (agree slot.0 slot.1) ∙ sym (tree.column other slot.0.place)))
  good (Expr-F.Not of) t is = unary_same bound.Not (option_and_then (λ v. told (negation (truth_of v)))) tree.not (rows_of of) of.1 t is
  good (Expr-F.Minus of) t is = unary_same bound.Minus (option_and_then negative) tree.minus (rows_of of) of.1 t is
  good (Expr-F.Plus of) t is = unary_same bound.Plus (option_and_then whole) tree.plus (rows_of of) of.1 t is
  good (Expr-F.Binary o l r) t is = binary_same o (rows_of l) (rows_of r) l.1 r.1 t is
  good (Expr-F.OneOf n l list) t is = one_of_same n (rows_of l) (map (λ r. r.on_rows) (readings list)) l.1 (many list) t is
  good (Expr-F.Like n l p) t is = like_same n (rows_of l) (rows_of p) l.1 p.1 t is
  good (Expr-F.Between n x l h) t is = between_same n (rows_of x) (rows_of l) (rows_of h) x.1 l.1 h.1 t is
  good (Expr-F.Call name args) t is = by (is_aggregate (function_of name)) is
    where
      by : (b : Bool) → (call_reading b name (readings args)).on_rows ≡ Ok t → IsSame t.value
      by true said = function_same name (map (λ r. r.on_rows) (readings args)) (many args) t said
      by false said = function_same name (map (λ r. r.on_rows) (readings args)) (many args) t said
  good (Expr-F.CallAll name) t is = by (is_count (function_of name)) is
    where
      by : (b : Bool) → (call_all_reading b name).on_rows ≡ Ok t → IsSame t.value
      by true said = cc
      by false said = cc

  pub reads_scope : (e : Expr) → IsGood e
  reads_scope = ind-Expr IsGood (λ x y is. subst (λ z. IsGood (roll-Expr z)) is (step y))
    where
      step : (y : Expr-F Part) → IsGood (roll-Expr (map-Expr Part Expr (λ p. p.0) y))
      step y t said =
          good y t
          (ap (λ r. r.on_rows) (sym (fold-roll-Expr Reading (level_reading scope) (map-Expr Part Expr (λ p. p.0) y) ∙ ap (level_reading scope) (fused (reading_of scope) (λ (p : Part). p.0) y))) ∙ said)
