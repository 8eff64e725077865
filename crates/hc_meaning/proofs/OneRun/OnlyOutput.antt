-- A right output is the text of the serial run of its input's statements, which the bytes fix.
use Rattle.std.proofs.Common.{◌≡◌, ◌∙◌, sym, ap, subst, ℕ, List}
use Rattle.hc_transcript.specs.Text.{output_text}
use Rattle.hc_meaning.specs.declared.statement.Statement.{Statement}
use Rattle.hc_meaning.specs.declared.transaction.Script.{Script}
use Rattle.hc_meaning.specs.Input.{IsScript}
use Rattle.hc_meaning.specs.Played.{played_alone}
use Rattle.hc_meaning.specs.RightOutput.{IsRightRun, IsRightOutput}
use Rattle.hc_meaning.proofs.Language.Scripts.{script_once}
use Rattle.hc_meaning.proofs.OneRun.OnlyRun.{only-right}

-- a right output is the text of the serial run of its input's statements
serial : (input output : List ℕ) → IsRightOutput input output → (statements : List Statement) × IsScript input statements × (output ≡ output_text (played_alone statements))
serial input output right =
    let (statements, is_script, within, few, are) = right.is_input in
    let run = subst (λ (scripts : List Script). IsRightRun scripts right.transcripts) are right.is_run in
    (statements, is_script, right.is_output.1 ∙ ap output_text (only-right statements right.transcripts run))

-- an input has one right output
pub only-output : (input one other : List ℕ) → IsRightOutput input one → IsRightOutput input other → one ≡ other
only-output input one other first second =
    let (statements, is_script, is_one) = serial input one first in
    let (again, is_again, is_other) = serial input other second in
    is_one ∙ ap (λ (s : List Statement). output_text (played_alone s)) (script_once input statements again is_script is_again) ∙ sym is_other
