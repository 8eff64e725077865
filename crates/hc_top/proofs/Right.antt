-- From what was read to what the whole input is: it is a right output's input, or none.
use Rattle.std.proofs.Common.{◌≡◌, ◌∙◌, ap, sym, subst, ℕ, ◌≤◌, List, [], ◌++◌, length, Option, Some, None, refl, arith, ⊎_elim, length-append}
use Rattle.std.proofs.lemmas.List.{append-nil}
use Rattle.hc_transcript.specs.Text.{output_text}
use Rattle.hc_meaning.specs.declared.limits.TheConstants.{MAX_INPUT, MAX_STATEMENTS}
use Rattle.hc_meaning.specs.declared.statement.Statement.{Statement}
use Rattle.hc_meaning.specs.Input.{BreaksForm, IsInput, IsScript}
use Rattle.hc_meaning.specs.Played.{played_alone}
use Rattle.hc_meaning.specs.RightOutput.{IsRightOutput}
use Rattle.hc_meaning.proofs.SerialRun.Alone.{setup_of, right-alone}
use Rattle.hc_meaning.proofs.SerialRun.SerialOutput.{serial_prints}
use Rattle.hc_top.specs.declared.script.ScriptError.{ScriptError}
use Rattle.hc_top.specs.declared.script.ScriptError.TheVariants.{Unbuilt, NoMemory}
use Rattle.hc_top.specs.Causes.{BreaksFormIfTold, IsCauseOfNone, status_of_script}
use Rattle.hc_top.specs.Streams.{ReadsAllOrMost, ReadsAllOrMostIfTold}
use Rattle.hc_top.specs.TopCall.{IsRightOutputIfTold, ReadsToEnd}

-- an input within the limit was read whole
read_whole : (left rest input : List ℕ) → ReadsAllOrMost left rest input → length input ≤ MAX_INPUT → (left ≡ input) × (rest ≡ [])
read_whole left rest input reads within =
    ⊎_elim (λ (all : rest ≡ []). (reads.bytes ∙ ap (λ (l : List ℕ). input ++ l) all ∙ append-nil input, all))
    (λ most. absurd (omega (arith, within, most)))
    reads.all_or_most

-- an output that is a serial run's text is right for the script's input
right_alone : (input output : List ℕ) (statements : List Statement) → IsScript input statements → length input ≤ MAX_INPUT → length statements ≤ MAX_STATEMENTS → output ≡ output_text (played_alone statements) → IsRightOutput input output
right_alone input output statements script bytes many is = record {
  scripts = setup_of statements;
  is_input = (statements, script, bytes, many, refl);
  transcripts = played_alone statements;
  is_output = (serial_prints input statements script many, is);
  is_run = right-alone statements;
}

module _ (input output : List ℕ) (statements : List Statement) (script : IsScript input statements) (bytes : length input ≤ MAX_INPUT) where
  -- the same of the input that was left, where that is told
  pub right_if_told : (left after : Option (List ℕ)) → ReadsAllOrMostIfTold left after input → length statements ≤ MAX_STATEMENTS → output ≡ output_text (played_alone statements) → IsRightOutputIfTold left output
  right_if_told None after reads many is = tt
  right_if_told (Some left) None reads many is = absurd reads
  right_if_told (Some left) (Some rest) reads many is =
      subst (λ (l : List ℕ). IsRightOutput l output) (sym (read_whole left rest input reads bytes).0) (right_alone input output statements script bytes many is)

-- an input within the limit was read to its end
pub to_end_if_told : (left after : Option (List ℕ)) (input : List ℕ) → ReadsAllOrMostIfTold left after input → length input ≤ MAX_INPUT → ReadsToEnd left after
to_end_if_told None after input reads bytes = tt
to_end_if_told (Some left) None input reads bytes = absurd reads
to_end_if_told (Some left) (Some rest) input reads bytes = ap Some (read_whole left rest input reads bytes).1

-- what was read is no input, so the whole is none
pub no_input_if_told : (left after : Option (List ℕ)) (input : List ℕ) → ReadsAllOrMostIfTold left after input → BreaksForm input → BreaksFormIfTold left
no_input_if_told None after input reads none = tt
no_input_if_told (Some left) None input reads none = absurd reads
no_input_if_told (Some left) (Some rest) input reads none = λ scripts whole.
    ⊎_elim (λ (all : rest ≡ []). none scripts (subst (λ (l : List ℕ). IsInput l scripts) (reads.bytes ∙ ap (λ (l : List ℕ). input ++ l) all ∙ append-nil input) whole))
    (λ most. absurd (omega (arith, most, whole.2, ap length reads.bytes, length-append input rest)))
    reads.all_or_most

-- why the script was not read is why no output is made
pub cause_of_script : (left after : Option (List ℕ)) (input : List ℕ) (before now : ℕ) (error : ScriptError) → ReadsAllOrMostIfTold left after input → (error ≡ Unbuilt → BreaksForm input)
    → IsCauseOfNone left before now (status_of_script error)
cause_of_script left after input before now Unbuilt reads none = (refl, no_input_if_told left after input reads (none refl))
cause_of_script left after input before now NoMemory reads none = tt
