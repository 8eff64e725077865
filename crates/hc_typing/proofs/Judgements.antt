-- What a judgement that is a meaning was made of.
use Rattle.std.proofs.Common.{◌≡◌, ◌∙◌, refl, sym, ap, inl, inr, ◌⊎◌, ⊎_elim, List, [], ◌∷◌, ◌++◌, append_assoc, append-nil, map, Bool, true, false, Option, Some, None, Ok, Err}
use Rattle.std.specs.List.{fold}
use Rattle.hc_value.specs.declared.storage.Class.{Class}
use Rattle.hc_value.specs.declared.storage.Class.TheVariants as class
use Rattle.hc_ast.specs.declared.bound.Bound.{Bound}
use Rattle.hc_schema.specs.declared.typed.Typed.{Typed}
use Rattle.hc_schema.specs.Binding.Classes.{common, one_class, result_if, with_class}
use Rattle.hc_schema.specs.Binding.Faults.{Judged, after, each, walk, with_next}
use Rattle.hc_schema.specs.Binding.Scopes.{typed}
use Rattle.hc_schema.specs.Binding.Expressions.{made}

pub is_ok : {A : Type 0} {a b : A} → (let x : Judged A = Ok a in x ≡ Ok b) → a ≡ b
is_ok same = cc

pub is_some : {A : Type 0} {a b : A} → Some a ≡ Some b → a ≡ b
is_some same = cc

-- what came first was a meaning
pub first_of : {A B : Type 0} (x : Judged A) (next : A → Judged B) (b : B) → after x next ≡ Ok b → (a : A) × (x ≡ Ok a) × (next a ≡ Ok b)
first_of (Ok a) next b is = (a, refl, is)
first_of (Err fault) next b is = cc

pub made_of : (one : Option Class) (value : Bound) (t : Typed) → made one value ≡ Ok t → (c : Class) × (one ≡ Some c) × (t ≡ typed value c)
made_of None value t is = cc
made_of (Some c) value t is = (c, refl, sym (is_ok is))

pub result_is : (holds : Bool) (c d : Class) → result_if holds c ≡ Some d → d ≡ c
result_is true c d is = sym (is_some is)
result_is false c d is = cc

-- each part of a list is a meaning
walked : {A : Type 0} (before : List A) (xs : List (Judged A)) (all : List A) → walk with_next before xs ≡ Ok all → (rest : List A) × (all ≡ before ++ rest) × (xs ≡ map Ok rest)
walked before [] all is = ([], sym (is_ok is) ∙ sym (append-nil before), refl)
walked before (Err fault ∷ xs) all is = cc
walked before (Ok a ∷ xs) all is =
    let w = walked (before ++ a ∷ []) xs all is in
    (a ∷ w.0, w.1 ∙ append_assoc before (a ∷ []) w.0, ap (λ ys. Ok a ∷ ys) w.2)

pub each_is : {A : Type 0} (xs : List (Judged A)) (all : List A) → each xs ≡ Ok all → xs ≡ map Ok all
each_is xs all is = let w = walked [] xs all is in w.2 ∙ ap (map Ok) (sym w.1)

-- a class is that of NULL, or the one
abbrev pub IsOne : Class → Class → Type 0
IsOne c one = (c ≡ class.Null) ⊎ (c ≡ one)

common_is : (c d one : Class) → common c d ≡ Some one → IsOne c one × IsOne d one
common_is class.Null d one is = (inl refl, inr (is_some is))
common_is class.Int class.Null one is = (inr (is_some is), inl refl)
common_is class.Int class.Int one is = (inr (is_some is), inr (is_some is))
common_is class.Int class.Text one is = cc
common_is class.Int class.Blob one is = cc
common_is class.Text class.Null one is = (inr (is_some is), inl refl)
common_is class.Text class.Int one is = cc
common_is class.Text class.Text one is = (inr (is_some is), inr (is_some is))
common_is class.Text class.Blob one is = cc
common_is class.Blob class.Null one is = (inr (is_some is), inl refl)
common_is class.Blob class.Int one is = cc
common_is class.Blob class.Text one is = cc
common_is class.Blob class.Blob one is = (inr (is_some is), inr (is_some is))

-- the classes of a list are those of NULL or the one
abbrev pub AreOne : Class → List Typed → Type 0
AreOne one [] = Unit {0}
AreOne one (t ∷ ts) = IsOne t.class one × AreOne one ts

no_class : (ts : List Typed) (one : Class) → fold with_class None ts ≡ Some one → ⊥
no_class [] one is = cc
no_class (t ∷ ts) one is = no_class ts one is

through : (c d one : Class) → IsOne c d → IsOne d one → IsOne c one
through c d one first second =
    ⊎_elim (λ (null : c ≡ class.Null). inl null)
    (λ (same : c ≡ d). ⊎_elim (λ (null : d ≡ class.Null). inl (same ∙ null)) (λ (is : d ≡ one). inr (same ∙ is)) second)
    first

folded : (c : Class) (ts : List Typed) (one : Class) → fold with_class (Some c) ts ≡ Some one → IsOne c one × AreOne one ts
folded c [] one is = (inr (is_some is), tt)
folded c (t ∷ ts) one is = by (common c t.class) refl is (λ d same. folded d ts one same)
  where
    by : (o : Option Class) → common c t.class ≡ o → fold with_class o ts ≡ Some one → ((d : Class) → fold with_class (Some d) ts ≡ Some one → IsOne d one × AreOne one ts) → IsOne c one × (IsOne t.class one × AreOne one ts)
    by None both told rest = absurd (no_class ts one told)
    by (Some d) both told rest =
        let r = rest d told in
        let two = common_is c t.class d both in
        (through c d one two.0 r.0, (through t.class d one two.1 r.0, r.1))

pub one_class_is : (c : Class) (ts : List Typed) (one : Class) → one_class c ts ≡ Some one → AreOne one ts
one_class_is c ts one is = (folded c ts one is).1
