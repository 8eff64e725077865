-- What the parts of the top call say of its answer.
use Rattle.std.proofs.Common.{◌≡◌, ◌∙◌, ap, ℕ, List, ◌++◌, length, Option, Some, None, refl, arith, ◌⊎◌, inr, IfSome}
use Rattle.std.proofs.lemmas.List.{take_all}
use Rattle.hc_io.specs.Faults.{Rose}
use Rattle.hc_io.specs.Transfer.{WritesIfTold}
use Rattle.hc_top.specs.declared.status.Status.{Status}
use Rattle.hc_top.specs.declared.status.InputKind.TheVariants.{Unbuilt}
use Rattle.hc_top.specs.declared.status.Status.TheVariants.{Done, Input, ReadFault, WriteFault, Words, NoMemory}
use Rattle.hc_meaning.specs.Input.{BreaksForm, IsOfForm}
use Rattle.hc_top.specs.Causes.{IsCauseOfNone, RefusesInput}
use Rattle.hc_top.specs.TopCall.{IsRightOutputIfTold, WritesRightOutput}

-- An input of the form, without a fault, has no cause but memory. A and B are whatever else is given.
pub done_or_no_memory : (left : Option (List ℕ)) (before now : ℕ) (status : Status) (A B : Type 0) → IsCauseOfNone left before now status
    → IfSome left (λ input. IsOfForm input → A → (Rose before now → ⊥) → B → (status ≡ Done) ⊎ (status ≡ NoMemory))
done_or_no_memory None before now status A B cause = tt
done_or_no_memory (Some input) before now Done A B cause = absurd cause
done_or_no_memory (Some input) before now (Input at Unbuilt) A B cause = λ form a still b. absurd (cause.1 form.0 form.1)
done_or_no_memory (Some input) before now ReadFault A B cause = λ form a still b. absurd (still cause)
done_or_no_memory (Some input) before now WriteFault A B cause = absurd cause
done_or_no_memory (Some input) before now Words A B cause = absurd cause
done_or_no_memory (Some input) before now NoMemory A B cause = λ form a still b. inr refl

-- what made no output refuses the input, whether it breaks the form or not
refuses_input : (left : Option (List ℕ)) (before now : ℕ) (status : Status) → IsCauseOfNone left before now status → RefusesInput status
refuses_input left before now Done cause = cause
refuses_input left before now (Input at Unbuilt) cause = cause.0
refuses_input left before now ReadFault cause = tt
refuses_input left before now WriteFault cause = cause
refuses_input left before now Words cause = cause
refuses_input left before now NoMemory cause = tt

-- an input that breaks the form is refused, where no output was made
pub refused_if_broken : (left : Option (List ℕ)) (before now : ℕ) (status : Status) (A : Type 0) → IsCauseOfNone left before now status → IfSome left (λ input. BreaksForm input → A → RefusesInput status)
refused_if_broken None before now status A cause = tt
refused_if_broken (Some input) before now status A cause = λ breaks a. refuses_input (Some input) before now status cause

-- where an output was made the input doesn't break the form
pub no_broken_form : (left : Option (List ℕ)) (output : List ℕ) (A B : Type 0) → IsRightOutputIfTold left output → IfSome left (λ input. BreaksForm input → A → B)
no_broken_form None output A B right = tt
no_broken_form (Some input) output A B right = λ breaks a. absurd (breaks right.scripts right.is_input)

-- the output, written whole
pub right_written : (left before after : Option (List ℕ)) (output : List ℕ) → IsRightOutputIfTold left output → WritesIfTold before after output (length output) → WritesRightOutput left before after
right_written None before after output right wrote = tt
right_written (Some input) None after output right wrote = tt
right_written (Some input) (Some before) None output right wrote = absurd wrote
right_written (Some input) (Some before) (Some after) output right wrote =
    (output, right, ap Some (wrote ∙ ap (λ (l : List ℕ). before ++ l) (take_all (length output) output (omega arith))))
