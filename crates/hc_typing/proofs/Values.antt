-- The class of what an operator or a function makes.
use Rattle.std.proofs.Common.{◌≡◌, ◌∙◌, refl, sym, subst, inl, inr, ⊎_elim, ℤ, pos, List, [], ◌∷◌, Bool, true, false, Option, Some, None}
use Rattle.std.specs.Prelude.{if◌then◌else◌}
use Rattle.std.specs.Option.{option_and_then}
use Rattle.std.specs.Ordering.{int_eq, is_eq, is_ne}
use Rattle.std.specs.Prelude.{int_div, int_rem, nat_abs, neg_ℤ, ◌+ℤ◌, ◌-ℤ◌, ◌*ℤ◌}
use Rattle.hc_value.specs.declared.storage.Class.{Class}
use Rattle.hc_value.specs.declared.storage.Class.TheVariants as class
use Rattle.hc_value.specs.declared.value.Value.{Value}
use Rattle.hc_value.specs.declared.value.Value.TheVariants.{Null, Int, Text, Blob}
use Rattle.hc_value.specs.Order.{class_of, value_order}
use Rattle.hc_ast.specs.declared.operator.BinaryOp.{BinaryOp}
use Rattle.hc_ast.specs.declared.operator.BinaryOp.TheVariants as op
use Rattle.hc_expr.specs.Arithmetic.{Outcome, exact, fits, of_integer, of_integers, negative, magnitude, whole}
use Rattle.hc_expr.specs.Logic.{Truth, value_of_truth}
use Rattle.hc_expr.specs.Values.{all_values, extent, first_value, joined, of_both, operated, told, value_or}
use Rattle.hc_schema.specs.Binding.Classes.{operator_class}
use Rattle.hc_typing.specs.Rows.{IsOfClass, IsAlwaysOf}
use Rattle.hc_typing.proofs.Judgements.{is_some, result_is, IsOne}

-- a value that is there
pub always : (c : Class) (v : Value) → IsOfClass c v → IsAlwaysOf c (Some v)
always c v is w same = subst (IsOfClass c) (is_some same) is

pub never : (c : Class) → IsAlwaysOf c None
never c v same = cc

-- what follows a value
pub then_always : (c : Class) (f : Value → Outcome) → ((v : Value) → IsAlwaysOf c (f v)) → (o : Outcome) → IsAlwaysOf c (option_and_then f o)
then_always c f each None v is = cc
then_always c f each (Some u) v is = each u v is

pub both_always : (c : Class) (f : Value → Value → Outcome) → ((v w : Value) → IsAlwaysOf c (f v w)) → (a b : Outcome) → IsAlwaysOf c (of_both f a b)
both_always c f each a b = then_always c (λ v. option_and_then (f v) b) (λ v. then_always c (f v) (each v) b) a

-- a truth is an integer or NULL
truth_is : (t : Truth) → IsOfClass class.Int (value_of_truth t)
truth_is None = inl refl
truth_is (Some true) = inr refl
truth_is (Some false) = inr refl

pub told_is : (t : Truth) → IsAlwaysOf class.Int (told t)
told_is t = always class.Int (value_of_truth t) (truth_is t)

-- and so is arithmetic
exact_is : (n : ℤ) → IsAlwaysOf class.Int (exact n)
exact_is n = by (fits n)
  where
    by : (b : Bool) → IsAlwaysOf class.Int (if b then Some (Int n) else None)
    by true = always class.Int (Int n) (inr refl)
    by false = never class.Int

null_is : (c : Class) → IsAlwaysOf c (Some Null)
null_is c = always c Null (inl refl)

unless_zero : (n : ℤ) (o : Outcome) → IsAlwaysOf class.Int o → IsAlwaysOf class.Int (if int_eq n (pos 0) then Some Null else o)
unless_zero n o is = by (int_eq n (pos 0))
  where
    by : (b : Bool) → IsAlwaysOf class.Int (if b then Some Null else o)
    by true = null_is class.Int
    by false = is

one_integer : (f : ℤ → Outcome) → ((n : ℤ) → IsAlwaysOf class.Int (f n)) → (v : Value) → IsAlwaysOf class.Int (of_integer f v)
one_integer f each Null = null_is class.Int
one_integer f each (Int n) = each n
one_integer f each (Text t) = null_is class.Int
one_integer f each (Blob b) = null_is class.Int

two_integers : (f : ℤ → ℤ → Outcome) → ((m n : ℤ) → IsAlwaysOf class.Int (f m n)) → (v w : Value) → IsAlwaysOf class.Int (of_integers f v w)
two_integers f each Null w = null_is class.Int
two_integers f each (Text t) w = null_is class.Int
two_integers f each (Blob b) w = null_is class.Int
two_integers f each (Int m) Null = null_is class.Int
two_integers f each (Int m) (Int n) = each m n
two_integers f each (Int m) (Text t) = null_is class.Int
two_integers f each (Int m) (Blob b) = null_is class.Int

pub negative_is : (v : Value) → IsAlwaysOf class.Int (negative v)
negative_is = one_integer (λ n. exact (neg_ℤ n)) (λ n. exact_is (neg_ℤ n))

pub magnitude_is : (v : Value) → IsAlwaysOf class.Int (magnitude v)
magnitude_is = one_integer (λ n. exact (pos (nat_abs n))) (λ n. exact_is (pos (nat_abs n)))

pub whole_is : (v : Value) → IsAlwaysOf class.Int (whole v)
whole_is = one_integer (λ n. Some (Int n)) (λ n. always class.Int (Int n) (inr refl))

pub extent_is : (v : Value) → IsAlwaysOf class.Int (extent v)
extent_is Null = null_is class.Int
extent_is (Int n) = null_is class.Int
extent_is (Text t) = always class.Int _ (inr refl)
extent_is (Blob b) = always class.Int _ (inr refl)

joined_is : (v w : Value) → IsAlwaysOf class.Text (Some (joined v w))
joined_is Null w = null_is class.Text
joined_is (Int n) w = null_is class.Text
joined_is (Blob b) w = null_is class.Text
joined_is (Text s) Null = null_is class.Text
joined_is (Text s) (Int n) = null_is class.Text
joined_is (Text s) (Text t) = always class.Text (joined (Text s) (Text t)) (inr refl)
joined_is (Text s) (Blob b) = null_is class.Text

-- the value of an operator is of the operator's class
module _ (l r c : Class) where
  of_class : (d : Class) (f : Value → Value → Outcome) → ((v w : Value) → IsAlwaysOf d (f v w)) → c ≡ d → (v w : Value) → IsAlwaysOf c (f v w)
  of_class d f each same v w = subst (λ k. IsAlwaysOf k (f v w)) (sym same) (each v w)

  pub operated_is : (o : BinaryOp) → operator_class o l r ≡ Some c → (v w : Value) → IsAlwaysOf c (operated o v w)
  operated_is op.Or h = of_class class.Int (operated op.Or) (λ v w. told_is _) (result_is _ class.Int c h)
  operated_is op.And h = of_class class.Int (operated op.And) (λ v w. told_is _) (result_is _ class.Int c h)
  operated_is op.Eq h = of_class class.Int (operated op.Eq) (λ v w. told_is _) (result_is _ class.Int c h)
  operated_is op.Ne h = of_class class.Int (operated op.Ne) (λ v w. told_is _) (result_is _ class.Int c h)
  operated_is op.Is h = of_class class.Int (operated op.Is) (λ v w. told_is (Some (is_eq (value_order v w)))) (result_is _ class.Int c h)
  operated_is op.IsNot h = of_class class.Int (operated op.IsNot) (λ v w. told_is (Some (is_ne (value_order v w)))) (result_is _ class.Int c h)
  operated_is op.Lt h = of_class class.Int (operated op.Lt) (λ v w. told_is _) (result_is _ class.Int c h)
  operated_is op.Le h = of_class class.Int (operated op.Le) (λ v w. told_is _) (result_is _ class.Int c h)
  operated_is op.Gt h = of_class class.Int (operated op.Gt) (λ v w. told_is _) (result_is _ class.Int c h)
  operated_is op.Ge h = of_class class.Int (operated op.Ge) (λ v w. told_is _) (result_is _ class.Int c h)
  operated_is op.Add h = of_class class.Int (operated op.Add) (two_integers (λ m n. exact (m +ℤ n)) (λ m n. exact_is (m +ℤ n))) (result_is _ class.Int c h)
  operated_is op.Sub h = of_class class.Int (operated op.Sub) (two_integers (λ m n. exact (m -ℤ n)) (λ m n. exact_is (m -ℤ n))) (result_is _ class.Int c h)
  operated_is op.Mul h = of_class class.Int (operated op.Mul) (two_integers (λ m n. exact (m *ℤ n)) (λ m n. exact_is (m *ℤ n))) (result_is _ class.Int c h)
  operated_is op.Div h = of_class class.Int (operated op.Div) (two_integers _ (λ m n. unless_zero n _ (exact_is (int_div m n)))) (result_is _ class.Int c h)
  operated_is op.Rem h = of_class class.Int (operated op.Rem) (two_integers _ (λ m n. unless_zero n _ (exact_is (int_rem m n)))) (result_is _ class.Int c h)
  operated_is op.Concat h = of_class class.Text (operated op.Concat) joined_is (result_is _ class.Text c h)

-- the first value that is not NULL, of values that are of the class
abbrev pub AreOf : Class → List Outcome → Type 0
AreOf c [] = Unit {0}
AreOf c (o ∷ os) = IsAlwaysOf c o × AreOf c os

abbrev pub FirstIsOf : Class → Option (List Value) → Type 0
FirstIsOf c None = Unit {0}
FirstIsOf c (Some vs) = IsOfClass c (first_value vs)

value_or_is : (c : Class) (v w : Value) → IsOfClass c v → IsOfClass c w → IsOfClass c (value_or v w)
value_or_is c Null w first second = second
value_or_is c (Int n) w first second = first
value_or_is c (Text t) w first second = first
value_or_is c (Blob b) w first second = first

first_is : (c : Class) (os : List Outcome) → AreOf c os → FirstIsOf c (all_values os)
first_is c [] are = inl refl
first_is c (None ∷ os) are = tt
first_is c (Some v ∷ os) are = by (all_values os) (first_is c os are.1)
  where
    by : (o : Option (List Value)) → FirstIsOf c o → FirstIsOf c (option_and_then (λ vs. Some (v ∷ vs)) o)
    by None is = tt
    by (Some vs) is = value_or_is c v (first_value vs) (are.0 v refl) is

pub coalesced_is : (c : Class) (os : List Outcome) → AreOf c os → IsAlwaysOf c (option_and_then (λ vs. Some (first_value vs)) (all_values os))
coalesced_is c os are = by (all_values os) (first_is c os are)
  where
    by : (o : Option (List Value)) → FirstIsOf c o → IsAlwaysOf c (option_and_then (λ vs. Some (first_value vs)) o)
    by None is = never c
    by (Some vs) is = always c (first_value vs) is

-- of a class that is that of NULL or the one
pub wider : (c one : Class) (o : Outcome) → IsOne c one → IsAlwaysOf c o → IsAlwaysOf one o
wider c one o is each v same =
    ⊎_elim (λ (null : class_of v ≡ class.Null). inl null)
    (λ (own : class_of v ≡ c). ⊎_elim (λ (null : c ≡ class.Null). inl (own ∙ null)) (λ (here : c ≡ one). inr (own ∙ here)) is)
    (each v same)
