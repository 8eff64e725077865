-- A condition whose conjuncts are added to a list.
use Rattle.std.proofs.Common.{◌≡◌, ◌∙◌, List, [], ◌∷◌, ◌++◌, Bool, true, false, refl, ap, sym, subst, Ok, Err, Result, append_assoc}
use Rattle.std.specs.Prelude.{◌&&◌, if◌then◌else◌}
use Rattle.hc_value.specs.declared.storage.Class.{Class}
use Rattle.hc_value.specs.declared.storage.Class.TheVariants.{Int}
use Rattle.hc_ast.specs.declared.bound.Bound.{Bound}
use Rattle.hc_ast.specs.declared.bound.Bound.TheVariants as bound
use Rattle.hc_ast.specs.declared.operator.BinaryOp.{BinaryOp}
use Rattle.hc_ast.specs.declared.operator.BinaryOp.TheVariants as op
use Rattle.hc_schema.specs.Binding.Faults.{Mixed, after, after_both}
use Rattle.hc_schema.specs.Binding.Classes.{fits, result_if}
use Rattle.hc_schema.specs.Binding.Scopes.{typed}
use Rattle.hc_schema.specs.Binding.Expressions.{Reading, made, alone, binary, binary_conjuncts, binary_reading}
use Rattle.hc_bind.specs.declared.fault.BindFault.{BindFault}
use Rattle.hc_bind.specs.Answers.{Tells}
use Rattle.hc_bind.specs.Conjuncts.{Conjoined, Conjoins, ConjoinsAlone}

-- an expression that is no AND
pub alone_told : (r : Reading) (before now : List Bound) (answer : Result Class BindFault) → r.conjuncts ≡ alone r.on_rows → ConjoinsAlone r.on_rows before now answer → Conjoins r before now answer
alone_told r before now (Ok class) h t = (t.0, t.1, t.2, t.0.value ∷ [], h ∙ ap alone t.1, t.3)
alone_told r before now (Err e) h t = t

-- any other operator
pub other_operator : (o : BinaryOp) (l r : Reading) → (o ≡ op.And → ⊥) → binary_conjuncts o l r ≡ alone (binary o l.on_rows r.on_rows)
other_operator op.And l r apart = absurd (apart refl)
other_operator o l r apart = refl

-- the classes of both sides of an AND make its own
made_of : (holds : Bool) (v : Bound) → after (if holds then Ok Int else Err Mixed) (λ class. Ok (typed v class)) ≡ made (result_if holds Int) v
made_of true v = refl
made_of false v = refl

pub both_told : (l r : Reading) (before between now : List Bound) (c d : Class) (answer : Result Class BindFault) → Conjoined l.on_rows l.conjuncts before between c → Conjoined r.on_rows r.conjuncts between now d
    → Tells (if fits c Int && fits d Int then Ok Int else Err Mixed) answer → Conjoins (binary_reading op.And l r) before now answer
both_told l r before between now c d answer left right h = by_answer answer h
  where
    value : Bound
    value = bound.Binary op.And left.0.value right.0.value

    whole : binary op.And l.on_rows r.on_rows ≡ after (if fits c Int && fits d Int then Ok Int else Err Mixed) (λ class. Ok (typed value class))
    whole =
        ap (λ j. binary op.And j r.on_rows) left.1 ∙ ap (binary op.And (Ok left.0)) right.1
        ∙ ap (λ k. made (result_if (fits k Int && fits right.0.class Int) Int) value) left.2
        ∙ ap (λ k. made (result_if (fits c Int && fits k Int) Int) value) right.2
        ∙ sym (made_of (fits c Int && fits d Int) value)

    by_answer : (answer : Result Class BindFault) → Tells (if fits c Int && fits d Int then Ok Int else Err Mixed) answer → Conjoins (binary_reading op.And l r) before now answer
    by_answer (Ok class) told = (
      typed value class,
      whole ∙ ap (λ j. after j (λ k. Ok (typed value k))) told,
      refl,
      left.3 ++ right.3,
      ap (λ j. after_both j r.conjuncts (λ xs ys. Ok (xs ++ ys))) left.4 ∙ ap (λ j. after j (λ ys. Ok (left.3 ++ ys))) right.4,
      right.5 ∙ ap (λ xs. xs ++ right.3) left.5 ∙ append_assoc before left.3 right.3,
    )
    by_answer (Err e) told = λ fault why. whole ∙ ap (λ j. after j (λ k. Ok (typed value k))) (told fault why)

pub conjoins_same : (r q : Reading) (before now : List Bound) (answer : Result Class BindFault) → r ≡ q → Conjoins q before now answer → Conjoins r before now answer
conjoins_same r q before now answer same h = subst (λ p. Conjoins p before now answer) (sym same) h
