-- The values of a list of expressions, one after the other.
use Rattle.std.proofs.Common.{ℕ, ◌+◌, ◌<◌, List, [], ◌∷◌, ◌++◌, ◌≡◌, ◌∙◌, ap, sym, refl, zero, suc, Option, Some, None, Err, true, false, map, length, take, get_or, arith}
use Rattle.std.specs.Option.{option_and_then}
use Rattle.std.proofs.lemmas.List.{map_more}
use Rattle.hc_value.specs.declared.value.Value.{Value}
use Rattle.hc_value.specs.declared.value.Value.TheVariants.{Null, Int, Text, Blob}
use Rattle.hc_expr.specs.declared.fault.EvalFault.{EvalFault}
use Rattle.hc_expr.specs.declared.fault.EvalFault.TheVariants.{Overflow, NoMemory}
use Rattle.hc_ast.specs.declared.bound.Bound.{Bound}
use Rattle.hc_expr.specs.Arithmetic.{Outcome}
use Rattle.hc_expr.specs.Logic.{Truth, disjunction}
use Rattle.hc_expr.specs.Operands.{held, Gives, GivesTruth}
use Rattle.hc_expr.specs.Values.{value_of, values_of, all_values, are_equal, is_among, first_value, value_or}

-- a list and one value more
all_more : (os : List Outcome) (vs : List Value) (w : Value) → all_values os ≡ Some vs → all_values (os ++ Some w ∷ []) ≡ Some (vs ++ w ∷ [])
all_more os vs w h = grown os w ∙ ap (option_and_then (λ us. Some (us ++ w ∷ []))) h
  where
    lifted : (o : Option (List Value)) (v w : Value) → option_and_then (λ us. Some (v ∷ us)) (option_and_then (λ us. Some (us ++ w ∷ [])) o) ≡ option_and_then (λ us. Some (us ++ w ∷ [])) (option_and_then (λ us. Some (v ∷ us)) o)
    lifted None v w = refl
    lifted (Some us) v w = refl

    grown : (os : List Outcome) (w : Value) → all_values (os ++ Some w ∷ []) ≡ option_and_then (λ us. Some (us ++ w ∷ [])) (all_values os)
    grown [] w = refl
    grown (None ∷ os) w = refl
    grown (Some v ∷ os) w = ap (option_and_then (λ us. Some (v ∷ us))) (grown os w) ∙ lifted (all_values os) v w

-- one of them has none
missing : (f : Bound → Outcome) (xs : List Bound) (i : ℕ) (e : Bound) → i < length xs → e ≡ get_or xs i e → f e ≡ None → all_values (map f xs) ≡ None
missing f [] i e within is none = elim (none_below within) [ ]
  where
    none_below : i < 0 → ⊥
    none_below h = omega (arith, h)
missing f (x ∷ xs) zero e within is none = ap (λ o. all_values (o ∷ map f xs)) (ap f (sym is) ∙ none)
missing f (x ∷ xs) (suc i) e within is none = by_first (f x) (missing f xs i e (omega (arith, within)) is none)
  where
    by_first : (o : Outcome) → all_values (map f xs) ≡ None → all_values (o ∷ map f xs) ≡ None
    by_first None h = refl
    by_first (Some v) h = ap (option_and_then (λ vs. Some (v ∷ vs))) h

or_false : (t : Truth) → disjunction t (Some false) ≡ t
or_false None = refl
or_false (Some true) = refl
or_false (Some false) = refl

or_or : (a b c : Truth) → disjunction a (disjunction b c) ≡ disjunction (disjunction a b) c
or_or (Some true) b c = refl
or_or (Some false) b c = refl
or_or None (Some true) c = refl
or_or None (Some false) c = refl
or_or None None None = refl
or_or None None (Some true) = refl
or_or None None (Some false) = refl

-- one value more to be among
among_more : (v : Value) (vs : List Value) (w : Value) → is_among v (vs ++ w ∷ []) ≡ disjunction (is_among v vs) (are_equal v w)
among_more v [] w = or_false (are_equal v w)
among_more v (x ∷ vs) w = ap (disjunction (are_equal v x)) (among_more v vs w) ∙ or_or (are_equal v x) (is_among v vs) (are_equal v w)

or_null : (v : Value) → value_or v Null ≡ v
or_null Null = refl
or_null (Int n) = refl
or_null (Text text) = refl
or_null (Blob bytes) = refl

or_or_value : (a b c : Value) → value_or a (value_or b c) ≡ value_or (value_or a b) c
or_or_value Null b c = refl
or_or_value (Int n) b c = refl
or_or_value (Text text) b c = refl
or_or_value (Blob bytes) b c = refl

-- one value more to be the first
first_more : (vs : List Value) (w : Value) → first_value (vs ++ w ∷ []) ≡ value_or (first_value vs) w
first_more [] w = or_null w
first_more (v ∷ vs) w = ap (value_or v) (first_more vs w) ∙ or_or_value v (first_value vs) w

-- the loop's step: one expression more has its value
more_values : (row : List Value) (list : List Bound) (i : ℕ) (e : Bound) (vs : List Value) (w : Value) → i < length list → e ≡ get_or list i e
    → values_of row (take i list) ≡ Some vs → value_of row e ≡ Some w → values_of row (take (i + 1) list) ≡ Some (vs ++ w ∷ [])
more_values row list i e vs w within is so_far now =
    ap all_values (map_more (value_of row) list i e within)
    ∙ ap (λ o. all_values (map (value_of row) (take i list) ++ o ∷ [])) (ap (value_of row) (sym is) ∙ now)
    ∙ all_more (map (value_of row) (take i list)) vs w so_far

pub among_step : (row : List Value) (list : List Bound) (i : ℕ) (e : Bound) (v w : Value) (found : Truth) → i < length list → e ≡ get_or list i e
    → (vs : List Value) × (values_of row (take i list) ≡ Some vs) × (found ≡ is_among v vs) → value_of row e ≡ Some w
    → (vs : List Value) × (values_of row (take (i + 1) list) ≡ Some vs) × (disjunction found (are_equal v w) ≡ is_among v vs)
among_step row list i e v w found within is so_far now = (
  so_far.0 ++ w ∷ [],
  more_values row list i e so_far.0 w within is so_far.1 now,
  ap (λ t. disjunction t (are_equal v w)) so_far.2 ∙ sym (among_more v so_far.0 w),
)

pub first_step : (row : List Value) (list : List Bound) (i : ℕ) (e : Bound) (w found : Value) → i < length list → e ≡ get_or list i e
    → (vs : List Value) × (values_of row (take i list) ≡ Some vs) × (found ≡ first_value vs) → value_of row e ≡ Some w
    → (vs : List Value) × (values_of row (take (i + 1) list) ≡ Some vs) × (value_or found w ≡ first_value vs)
first_step row list i e w found within is so_far now = (
  so_far.0 ++ w ∷ [],
  more_values row list i e so_far.0 w within is so_far.1 now,
  ap (λ u. value_or u w) so_far.2 ∙ sym (first_more so_far.0 w),
)

-- an expression of the list that has no value is the fault of the whole
pub among_fault : (row : List Value) (list : List Bound) (i : ℕ) (e : Bound) (v : Value) (fault : EvalFault) → i < length list → e ≡ get_or list i e
    → Gives held (Err fault) (value_of row e) → GivesTruth (Err fault) (option_and_then (λ vs. Some (is_among v vs)) (values_of row list))
among_fault row list i e v Overflow within is none = ap (option_and_then (λ vs. Some (is_among v vs))) (missing (value_of row) list i e within is none)
among_fault row list i e v NoMemory within is none = tt

pub first_fault : (row : List Value) (list : List Bound) (i : ℕ) (e : Bound) (fault : EvalFault) → i < length list → e ≡ get_or list i e
    → Gives held (Err fault) (value_of row e) → Gives held (Err fault) (option_and_then (λ vs. Some (first_value vs)) (values_of row list))
first_fault row list i e Overflow within is none = ap (option_and_then (λ vs. Some (first_value vs))) (missing (value_of row) list i e within is none)
first_fault row list i e NoMemory within is none = tt
