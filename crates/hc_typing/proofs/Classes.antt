-- A bound expression has NULL or a value of its class, by its form.
use Rattle.std.proofs.Common.{◌≡◌, ◌∙◌, refl, sym, ap, subst, inl, inr, ⊎_elim, ℕ, List, [], ◌∷◌, map, length, Bool, true, false, Option, Some, None, Ok, Err}
use Rattle.std.specs.Prelude.{if◌then◌else◌, nat_eq}
use Rattle.std.specs.List.{filter}
use Rattle.std.specs.Option.{option_and_then}
use Rattle.hc_base.specs.Lookup.{Among}
use Rattle.hc_value.specs.declared.storage.Class.{Class}
use Rattle.hc_value.specs.declared.storage.Class.TheVariants as class
use Rattle.hc_value.specs.declared.value.Value.{Value}
use Rattle.hc_value.specs.Order.{class_of}
use Rattle.hc_ast.specs.declared.operator.BinaryOp.{BinaryOp}
use Rattle.hc_ast.specs.declared.bound.Bound.{Bound}
use Rattle.hc_ast.specs.declared.bound.Bound.TheVariants as bound
use Rattle.hc_ast.specs.declared.expression.Expr.{Expr}
use Rattle.hc_ast.specs.declared.expression.Expr.TheOpen.{Expr-F}
use Rattle.hc_ast.specs.declared.expression.Expr.TheViews.{roll-Expr}
use Rattle.hc_ast.specs.declared.expression.Expr.TheFolds.{fold-roll-Expr, ind-Expr, map-Expr}
use Rattle.hc_expr.specs.Arithmetic.{Outcome, negative, whole}
use Rattle.hc_expr.specs.Logic.{negated_if, negation, truth_of}
use Rattle.hc_expr.specs.Values.{all_values, is_among, is_between, likeness, operated, told, value_of}
use Rattle.hc_schema.specs.declared.typed.Typed.{Typed}
use Rattle.hc_schema.specs.declared.typed.Function.{Function}
use Rattle.hc_schema.specs.declared.typed.Function.TheVariants.{Length, Abs, Coalesce, Over}
use Rattle.hc_schema.specs.declared.typed.Called.{Called}
use Rattle.hc_schema.specs.Binding.Classes.{fits, one_class, operator_class, result_if}
use Rattle.hc_schema.specs.Binding.Classes as classes
use Rattle.hc_schema.specs.Binding.Faults.{Arity, Fault, Judged, NoTable, after, each}
use Rattle.hc_schema.specs.Binding.Functions.{call_class, function_of, is_aggregate, is_count, wanted}
use Rattle.hc_schema.specs.Binding.Scopes.{Scope, Slot, is_meant, is_source, resolved, the_one, typed}
use Rattle.hc_schema.specs.Binding.Scopes as scopes
use Rattle.hc_schema.specs.Binding.Expressions.{Reading, applied, between, binary, call_all_reading, call_reading, called, called_among, classed, counted, level_reading, like, made, one_of, on_rows, reading_of, row_call, row_function, row_value, unary, values_of}
use Rattle.hc_typing.specs.Rows.{FitsScope, IsAlwaysOf}
use Rattle.hc_typing.proofs.Judgements.{AreOne, each_is, first_of, is_ok, made_of, one_class_is, result_is}
use Rattle.hc_typing.proofs.Trees as tree
use Rattle.hc_typing.proofs.Trees.{fused, mapped}
use Rattle.hc_typing.proofs.Values.{AreOf, always, both_always, coalesced_is, extent_is, magnitude_is, negative_is, operated_is, then_always, told_is, whole_is, wider}

among_filter : (passes : Slot → Bool) (slot : Slot) (slots : List Slot) → Among slot (filter passes slots) → Among slot slots
among_filter passes slot [] there = there
among_filter passes slot (s ∷ slots) there = by (passes s) there (λ later. among_filter passes slot slots later)
  where
    by : (b : Bool) → Among slot (if b then s ∷ filter passes slots else filter passes slots) → (Among slot (filter passes slots) → Among slot slots) → Among slot (s ∷ slots)
    by true found rest = ⊎_elim (λ (here : slot ≡ s). inl here) (λ later. inr (rest later)) found
    by false found rest = inr (rest found)

-- the one column is among those that are meant
one_is : (name : List ℕ) (slots : List Slot) (t : Typed) → the_one name slots ≡ Ok t → (slot : Slot) × Among slot slots × (t ≡ scopes.column slot)
one_is name [] t is = cc
one_is name (slot ∷ []) t is = (slot, inl refl, sym (is_ok is))
one_is name (slot ∷ other ∷ others) t is = cc

-- a name is a column in scope
pub name_is : (scope : Scope) (source : Option (List ℕ)) (name : List ℕ) (t : Typed) → resolved scope source name ≡ Ok t → (slot : Slot) × Among slot scope.slots × (t ≡ scopes.column slot)
name_is scope None name t is =
    let one = one_is name (filter (is_meant None name) scope.slots) t is in (one.0, among_filter (is_meant None name) one.0 scope.slots one.1, one.2)
name_is scope (Some source) name t is = by (is_source scope source) is
  where
    by : (b : Bool) → (if b then the_one name (filter (is_meant (Some source) name) scope.slots) else (let none : Judged Typed = Err (NoTable source) in none)) ≡ Ok t
        → (slot : Slot) × Among slot scope.slots × (t ≡ scopes.column slot)
    by true told = let one = one_is name (filter (is_meant (Some source) name) scope.slots) t told in (one.0, among_filter (is_meant (Some source) name) one.0 scope.slots one.1, one.2)
    by false told = cc

-- as many arguments as are wanted are all of them
counted_by : (b : Bool) (fault : Fault) (ts us : List Typed) → (let all : Judged (List Typed) = if b then Ok ts else Err fault in all) ≡ Ok us → us ≡ ts
counted_by true fault ts us is = sym (is_ok is)
counted_by false fault ts us is = cc

pub counted_is : (f : Function) (ts us : List Typed) → counted f ts ≡ Ok us → us ≡ ts
counted_is f ts us is = counted_by (nat_eq (length ts) (wanted f (length ts))) (Arity (length ts) (wanted f (length ts))) ts us is

module _ (row : List Value) where
  abbrev pub HasClass : Typed → Type 0
  HasClass t = IsAlwaysOf t.class (value_of row t.value)

  abbrev pub AllHaveClass : List Typed → Type 0
  AllHaveClass [] = Unit {0}
  AllHaveClass (t ∷ ts) = HasClass t × AllHaveClass ts

  -- an outcome by which a value is said
  pub by_value : (c : Class) (value : Bound) (o : Outcome) → value_of row value ≡ o → IsAlwaysOf c o → HasClass (typed value c)
  by_value c value o is has = subst (IsAlwaysOf c) (sym is) has

  -- where the class can be one alone, the value is of it
  of_made : (one : Option Class) (value : Bound) (t : Typed) → made one value ≡ Ok t → ((c : Class) → one ≡ Some c → HasClass (typed value c)) → HasClass t
  of_made one value t is each = let m = made_of one value t is in subst HasClass (sym m.2) (each m.0 m.1)

  integer : (holds : Bool) (value : Bound) (t : Typed) → made (result_if holds class.Int) value ≡ Ok t → IsAlwaysOf class.Int (value_of row value) → HasClass t
  integer holds value t is has = of_made (result_if holds class.Int) value t is (λ c one. subst (λ d. HasClass (typed value d)) (sym (result_is holds class.Int c one)) has)

  unary_has : (make : Bound → Bound) (of : Judged Typed) → ((e : Bound) → IsAlwaysOf class.Int (value_of row (make e))) → (t : Typed) → unary make of ≡ Ok t → HasClass t
  unary_has make of has t is =
      let first = first_of of (λ u. made (result_if (fits u.class class.Int) class.Int) (make u.value)) t is in
      integer (fits first.0.class class.Int) (make first.0.value) t first.2 (has first.0.value)

  pub not_has : (of : Judged Typed) (t : Typed) → unary bound.Not of ≡ Ok t → HasClass t
  not_has of t is = unary_has bound.Not of (λ e. subst (IsAlwaysOf class.Int) (sym (tree.not row e)) (then_always class.Int _ (λ v. told_is (negation (truth_of v))) (value_of row e))) t is

  pub minus_has : (of : Judged Typed) (t : Typed) → unary bound.Minus of ≡ Ok t → HasClass t
  minus_has of t is = unary_has bound.Minus of (λ e. subst (IsAlwaysOf class.Int) (sym (tree.minus row e)) (then_always class.Int negative negative_is (value_of row e))) t is

  pub plus_has : (of : Judged Typed) (t : Typed) → unary bound.Plus of ≡ Ok t → HasClass t
  plus_has of t is = unary_has bound.Plus of (λ e. subst (IsAlwaysOf class.Int) (sym (tree.plus row e)) (then_always class.Int whole whole_is (value_of row e))) t is

  pub binary_has : (o : BinaryOp) (l r : Judged Typed) (t : Typed) → binary o l r ≡ Ok t → HasClass t
  binary_has o l r t is =
      let left = first_of l (λ a. after r (λ b. made (operator_class o a.class b.class) (bound.Binary o a.value b.value))) t is in
      let right = first_of r (λ b. made (operator_class o left.0.class b.class) (bound.Binary o left.0.value b.value)) t left.2 in
      of_made (operator_class o left.0.class right.0.class) (bound.Binary o left.0.value right.0.value) t right.2
      (λ c one. by_value c (bound.Binary o left.0.value right.0.value) _ (tree.binary row o left.0.value right.0.value)
      (both_always c (operated o) (operated_is left.0.class right.0.class c o one) (value_of row left.0.value) (value_of row right.0.value)))

  pub one_of_has : (n : Bool) (l : Judged Typed) (list : List (Judged Typed)) (t : Typed) → one_of n l list ≡ Ok t → HasClass t
  one_of_has n l list t is =
      let left = first_of l (λ a. after (each list) (λ ts. made (classes.compared (one_class a.class ts)) (bound.OneOf n a.value (values_of ts)))) t is in
      let others = first_of (each list) (λ ts. made (classes.compared (one_class left.0.class ts)) (bound.OneOf n left.0.value (values_of ts))) t left.2 in
      integer _ (bound.OneOf n left.0.value (values_of others.0)) t others.2
      (subst (IsAlwaysOf class.Int) (sym (tree.one_of row n left.0.value (values_of others.0)))
      (then_always class.Int _ (λ v. many v (all_values (map (value_of row) (values_of others.0)))) (value_of row left.0.value)))
    where
      many : (v : Value) (o : Option (List Value)) → IsAlwaysOf class.Int (option_and_then (λ vs. told (negated_if n (is_among v vs))) o)
      many v None = λ w same. cc
      many v (Some vs) = told_is (negated_if n (is_among v vs))

  pub like_has : (n : Bool) (l p : Judged Typed) (t : Typed) → like n l p ≡ Ok t → HasClass t
  like_has n l p t is =
      let left = first_of l (λ a. after p (λ b. made (classes.of_both class.Text a.class b.class class.Int) (bound.Like n a.value b.value))) t is in
      let right = first_of p (λ b. made (classes.of_both class.Text left.0.class b.class class.Int) (bound.Like n left.0.value b.value)) t left.2 in
      integer _ (bound.Like n left.0.value right.0.value) t right.2
      (subst (IsAlwaysOf class.Int) (sym (tree.like row n left.0.value right.0.value))
      (both_always class.Int _ (λ v w. told_is (negated_if n (likeness v w))) (value_of row left.0.value) (value_of row right.0.value)))

  pub between_has : (n : Bool) (x l h : Judged Typed) (t : Typed) → between n x l h ≡ Ok t → HasClass t
  between_has n x l h t is =
      let tested = first_of x (λ a. after l (λ b. after h (λ c. made (classes.compared (one_class a.class (b ∷ c ∷ []))) (bound.Between n a.value b.value c.value)))) t is in
      let low = first_of l (λ b. after h (λ c. made (classes.compared (one_class tested.0.class (b ∷ c ∷ []))) (bound.Between n tested.0.value b.value c.value))) t tested.2 in
      let high = first_of h (λ c. made (classes.compared (one_class tested.0.class (low.0 ∷ c ∷ []))) (bound.Between n tested.0.value low.0.value c.value)) t low.2 in
      integer _ (bound.Between n tested.0.value low.0.value high.0.value) t high.2
      (subst (IsAlwaysOf class.Int) (sym (tree.between row n tested.0.value low.0.value high.0.value))
      (then_always class.Int _ (λ v. both_always class.Int _ (λ a b. told_is (negated_if n (is_between v a b))) (value_of row low.0.value) (value_of row high.0.value)) (value_of row tested.0.value)))

  -- the arguments of coalesce are of the one class or NULL
  all_of : (one : Class) (ts : List Typed) → AreOne one ts → AllHaveClass ts → AreOf one (map (value_of row) (values_of ts))
  all_of one [] are have = tt
  all_of one (t ∷ ts) are have = (wider t.class one (value_of row t.value) are.0 have.0, all_of one ts are.1 have.1)

  coalesce_has : (c : Class) (list : List Bound) → AreOf c (map (value_of row) list) → HasClass (typed (bound.Coalesce list) c)
  coalesce_has c list are = by_value c (bound.Coalesce list) _ (tree.coalesce row list) (coalesced_is c (map (value_of row) list) are)

  -- a function that takes one argument, of which an integer is made
  length_has : (ts : List Typed) → HasClass (typed (applied Length (values_of ts)) class.Int)
  length_has [] = coalesce_has class.Int [] tt
  length_has (t ∷ ts) = by_value class.Int (bound.Length t.value) _ (tree.length row t.value) (then_always class.Int _ extent_is (value_of row t.value))

  abs_has : (ts : List Typed) → HasClass (typed (applied Abs (values_of ts)) class.Int)
  abs_has [] = coalesce_has class.Int [] tt
  abs_has (t ∷ ts) = by_value class.Int (bound.Abs t.value) _ (tree.abs row t.value) (then_always class.Int _ magnitude_is (value_of row t.value))

  -- a function of arguments of its classes
  call_has : (f : Function) (c : Class) (ts : List Typed) → call_class f ts ≡ Some c → AllHaveClass ts → (t : Typed) → row_value ts f c ≡ Ok t → HasClass t
  call_has Length c ts one have t is =
      let all = first_of (counted Length ts) (λ us. Ok (typed (applied Length (values_of us)) c)) t is in
      let classed_is = result_is _ class.Int c one in
      subst HasClass (is_ok all.2) (subst (λ d. HasClass (typed (applied Length (values_of all.0)) d)) (sym classed_is) (length_has all.0))
  call_has Abs c ts one have t is =
      let all = first_of (counted Abs ts) (λ us. Ok (typed (applied Abs (values_of us)) c)) t is in
      let classed_is = result_is _ class.Int c one in
      subst HasClass (is_ok all.2) (subst (λ d. HasClass (typed (applied Abs (values_of all.0)) d)) (sym classed_is) (abs_has all.0))
  call_has Coalesce c ts one have t is =
      let all = first_of (counted Coalesce ts) (λ us. Ok (typed (applied Coalesce (values_of us)) c)) t is in
      subst HasClass (is_ok all.2)
      (subst (λ us. HasClass (typed (bound.Coalesce (values_of us)) c)) (sym (counted_is Coalesce ts all.0 all.1)) (coalesce_has c (values_of ts) (all_of c ts (one_class_is class.Null ts c one) have)))
  call_has (Over kind) c ts one have t is = cc

  called_has : (name : List ℕ) (f : Option Function) (ts : List Typed) (c : Called) → called_among name f ts ≡ Ok c → AllHaveClass ts → (t : Typed) → row_call ts c ≡ Ok t → HasClass t
  called_has name None ts c is have t told_t = cc
  called_has name (Some f) ts c is have t told_t = by (call_class f ts) refl is
    where
      by : (o : Option Class) → call_class f ts ≡ o → classed f o ≡ Ok c → HasClass t
      by None one made_c = cc
      by (Some d) one made_c = call_has f d ts one have t (ap (row_call ts) (is_ok made_c) ∙ told_t)

  pub function_has : (name : List ℕ) (args : List (Judged Typed)) → ((ts : List Typed) → each args ≡ Ok ts → AllHaveClass ts) → (t : Typed) → row_function name args ≡ Ok t → HasClass t
  function_has name args have t is =
      let all = first_of (each args) (λ ts. after (called name ts) (row_call ts)) t is in
      let call = first_of (called name all.0) (row_call all.0) t all.2 in
      called_has name (function_of name) all.0 call.0 call.1 (have all.0 all.1) t call.2

  -- arguments that have their classes
  pub arguments : {P : Type 0} (f : P → Judged Typed) → ((p : P) (t : Typed) → f p ≡ Ok t → HasClass t) → (args : List P) (ts : List Typed) → map f args ≡ map Ok ts → AllHaveClass ts
  arguments f one args [] same = tt
  arguments f one [] (t ∷ ts) same = cc
  arguments f one (p ∷ args) (t ∷ ts) same = (one p t (head_is (f p) (Ok t) (map f args) (map Ok ts) same), arguments f one args ts (tail_is (f p) (Ok t) (map f args) (map Ok ts) same))
    where
      head_is : (a b : Judged Typed) (xs ys : List (Judged Typed)) → a ∷ xs ≡ b ∷ ys → a ≡ b
      head_is a b xs ys is = cc

      tail_is : (a b : Judged Typed) (xs ys : List (Judged Typed)) → a ∷ xs ≡ b ∷ ys → xs ≡ ys
      tail_is a b xs ys is = cc

-- ---- the induction

module _ (scope : Scope) (row : List Value) (row_fits : FitsScope scope row) where
  abbrev IsGood : Expr → Type 0
  IsGood e = (t : Typed) → on_rows scope e ≡ Ok t → HasClass row t

  abbrev Part : Type 0
  Part = (e : Expr) × IsGood e

  abbrev rows_of : Part → Judged Typed
  rows_of p = on_rows scope p.0

  abbrev level : Expr-F Part → Reading
  level y = level_reading scope (map-Expr Part Reading (λ p. reading_of scope p.0) y)

  rows_fused : (args : List Part) → map (λ r. r.on_rows) (map (λ (p : Part). reading_of scope p.0) args) ≡ map rows_of args
  rows_fused args = mapped (λ r. r.on_rows) (λ (p : Part). reading_of scope p.0) args

  called_good : (name : List ℕ) (args : List Part) (t : Typed) → row_function name (map (λ r. r.on_rows) (map (λ (p : Part). reading_of scope p.0) args)) ≡ Ok t → HasClass row t
  called_good name args t is =
      function_has row name (map rows_of args) (λ ts all. arguments row rows_of (λ p. p.1) args ts (each_is (map rows_of args) ts all)) t (ap (row_function name) (sym (rows_fused args)) ∙ is)

  good : (y : Expr-F Part) (t : Typed) → (level y).on_rows ≡ Ok t → HasClass row t
  good (Expr-F.Value v) t is = subst (HasClass row) (is_ok is) (by_value row (class_of v) (bound.Value v) (Some v) (tree.literal row v) (always (class_of v) v (inr refl)))
  good (Expr-F.Name source name) t is =
      let slot = name_is scope source name t is in
      subst (HasClass row) (sym slot.2) (by_value row slot.0.class (bound.Column slot.0.place) _ (tree.column row slot.0.place) (always slot.0.class _ (row_fits slot.0 slot.1)))
  good (Expr-F.Not of) t is = not_has row (rows_of of) t is
  good (Expr-F.Minus of) t is = minus_has row (rows_of of) t is
  good (Expr-F.Plus of) t is = plus_has row (rows_of of) t is
  good (Expr-F.Binary o l r) t is = binary_has row o (rows_of l) (rows_of r) t is
  good (Expr-F.OneOf n l list) t is = one_of_has row n (rows_of l) (map (λ r. r.on_rows) (map (λ (p : Part). reading_of scope p.0) list)) t is
  good (Expr-F.Like n l p) t is = like_has row n (rows_of l) (rows_of p) t is
  good (Expr-F.Between n x l h) t is = between_has row n (rows_of x) (rows_of l) (rows_of h) t is
  good (Expr-F.Call name args) t is = by (is_aggregate (function_of name)) is
    where
      by : (b : Bool) → (call_reading b name (map (λ (p : Part). reading_of scope p.0) args)).on_rows ≡ Ok t → HasClass row t
      by true said = called_good name args t said
      by false said = called_good name args t said
  good (Expr-F.CallAll name) t is = by (is_count (function_of name)) is
    where
      by : (b : Bool) → (call_all_reading b name).on_rows ≡ Ok t → HasClass row t
      by true said = cc
      by false said = cc

  pub has_class : (e : Expr) → IsGood e
  has_class = ind-Expr IsGood (λ x y is. subst (λ z. IsGood (roll-Expr z)) is (step y))
    where
      step : (y : Expr-F Part) → IsGood (roll-Expr (map-Expr Part Expr (λ p. p.0) y))
      step y t said =
          good y t
          (ap (λ r. r.on_rows) (sym (fold-roll-Expr Reading (level_reading scope) (map-Expr Part Expr (λ p. p.0) y) ∙ ap (level_reading scope) (fused (reading_of scope) (λ (p : Part). p.0) y))) ∙ said)
