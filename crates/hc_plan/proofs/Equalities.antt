-- An `=` that is true: both sides have a value, and the values are equal, in either order.
use Rattle.std.proofs.Common.{◌≡◌, ◌∙◌, refl, sym, ap, subst, true, false, Some, None, Ordering, Less, Equal, Greater, nat_cmp, int_cmp}
use Rattle.std.specs.Ordering.{is_eq}
use Rattle.std.specs.Cmp.Lexicographic.{slice_cmp}
use Rattle.std.proofs.lemmas.Map.Lookups.{exact_bytes, exact_signed}
use Rattle.hc_value.specs.declared.value.Value.{Value}
use Rattle.hc_value.specs.declared.value.Value.TheVariants.{Null, Int, Text, Blob}
use Rattle.hc_ast.specs.declared.operator.BinaryOp.TheVariants.{Eq}
use Rattle.hc_expr.specs.Arithmetic.{Outcome}
use Rattle.hc_expr.specs.Logic.{Truth, truth_of, value_of_truth}
use Rattle.hc_expr.specs.Values.{are_equal, of_both, operated}

tie : (o : Ordering) → Some (is_eq o) ≡ Some true → o ≡ Equal
tie Less h = cc
tie Equal h = refl
tie Greater h = cc

-- equal values are equal the other way round
pub turned : (v w : Value) → are_equal v w ≡ Some true → are_equal w v ≡ Some true
turned Null w h = cc
turned (Int m) Null h = cc
turned (Int m) (Int n) h =
    let same = exact_signed m n (tie (int_cmp m n) h) in
    subst (λ k. Some (is_eq (int_cmp n k)) ≡ Some true) (sym same) (subst (λ k. Some (is_eq (int_cmp k n)) ≡ Some true) same h)
turned (Int m) (Text t) h = cc
turned (Int m) (Blob b) h = cc
turned (Text s) Null h = cc
turned (Text s) (Int n) h = cc
turned (Text s) (Text t) h =
    let same = exact_bytes s t (tie (slice_cmp nat_cmp s t) h) in
    subst (λ k. Some (is_eq (slice_cmp nat_cmp t k)) ≡ Some true) (sym same) (subst (λ k. Some (is_eq (slice_cmp nat_cmp k t)) ≡ Some true) same h)
turned (Text s) (Blob b) h = cc
turned (Blob a) Null h = cc
turned (Blob a) (Int n) h = cc
turned (Blob a) (Text t) h = cc
turned (Blob a) (Blob b) h =
    let same = exact_bytes a b (tie (slice_cmp nat_cmp a b) h) in
    subst (λ k. Some (is_eq (slice_cmp nat_cmp b k)) ≡ Some true) (sym same) (subst (λ k. Some (is_eq (slice_cmp nat_cmp k b)) ≡ Some true) same h)

-- a truth that is true as a value is true
truth_back : (t : Truth) → truth_of (value_of_truth t) ≡ Some true → t ≡ Some true
truth_back None h = cc
truth_back (Some true) h = refl
truth_back (Some false) h = cc

some_value : {A : Type 0} (a b : A) → Some a ≡ Some b → a ≡ b
some_value a b same = cc

-- both sides of a true `=`
pub sides : (a b : Outcome) (u : Value) → of_both (operated Eq) a b ≡ Some u → truth_of u ≡ Some true
    → (v : Value) × (w : Value) × (a ≡ Some v) × (b ≡ Some w) × (are_equal v w ≡ Some true)
sides None b u is truth = cc
sides (Some v) None u is truth = cc
sides (Some v) (Some w) u is truth =
    (v, w, refl, refl, truth_back (are_equal v w) (ap truth_of (some_value (value_of_truth (are_equal v w)) u is) ∙ truth))
