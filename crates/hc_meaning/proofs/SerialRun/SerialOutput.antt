-- The transcripts of an input's serial run are such as outputs can have, so each input has a right output.
use Rattle.std.proofs.Common.{refl, arith, lit<, ℕ, zero, suc, ◌+◌, ◌<◌, ◌≤◌, ◌^◌, ℤ, Bool, true, false, List, [], ◌∷◌, length, codes, w64, FitsSigned, Some}
use Rattle.std.specs.Prelude.{if◌then◌else◌, is_some}
use Rattle.std.specs.List.{AllByRecursion}
use Rattle.std.specs.List.Sorted.{IsStrictlyIncreasing}
use Rattle.std.specs.Ordering.{int_eq}
use Rattle.std.specs.Str.{IsAscii, IsUtf8}
use Rattle.std.proofs.lemmas.Str.{IsUtf8-from_ascii}
use Rattle.std.proofs.lemmas.Str.Ascii.{IsAscii-nil}
use Rattle.hc_transcript.specs.declared.reply.Reply.{Reply}
use Rattle.hc_transcript.specs.declared.reply.Line.TheVariants.{Ok}
use Rattle.hc_transcript.specs.Text.{output_text}
use Rattle.hc_transcript.specs.Outputs.{IsReply, AreTranscripts}
use Rattle.hc_meaning.specs.declared.limits.TheConstants.{MAX_STATEMENTS}
use Rattle.hc_meaning.specs.declared.answer.Outcome.{Outcome}
use Rattle.hc_meaning.specs.declared.statement.Statement.{Statement}
use Rattle.hc_meaning.specs.declared.statement.Statement.TheVariants.{Insert, Select}
use Rattle.hc_meaning.specs.declared.transaction.Script.{Script}
use Rattle.hc_meaning.specs.Database.{Db, empty_db, value_at, rows_at, with_row}
use Rattle.hc_meaning.specs.Input.{IsScript, IsInput}
use Rattle.hc_meaning.specs.Run.{duplicate}
use Rattle.hc_meaning.specs.Played.{ending_after, commits_at, played, transcripts_of, played_alone}
use Rattle.hc_meaning.specs.RightOutput.{IsRightOutput}
use Rattle.hc_meaning.proofs.EachElement.{all_filtered}
use Rattle.hc_meaning.proofs.SerialRun.Alone.{setup_of, right-alone}
use Rattle.hc_meaning.proofs.Table.Integers.{HasInteger, HasIntegers, rows_are, script_has, with_row_has}
use Rattle.hc_meaning.proofs.Table.RowCounts.{at_most, one_more}

-- bytes below 128, one by one, are ASCII
ascii_each : (bytes : List ℕ) → AllByRecursion (λ b. b < 128) bytes → IsAscii bytes
ascii_each [] are i = IsAscii-nil i
ascii_each (b ∷ bytes) are zero = are.0
ascii_each (b ∷ bytes) are (suc i) = ascii_each bytes are.1 i

-- bytes of ASCII are a text
ascii_is_text : (bytes : List ℕ) → AllByRecursion (λ b. b < 128) bytes → IsUtf8 bytes
ascii_is_text bytes are = IsUtf8-from_ascii bytes (ascii_each bytes are)

-- what holds of the replies to these statements, whatever the rows and the commits before them are
abbrev Later : List Statement → Type 0
Later statements =
    (commits : ℕ) (db : Db) → HasIntegers db → length db ≤ commits → commits + length statements < 2 ^ 32 → AllByRecursion IsReply (played commits db statements)

-- what an INSERT answers and leaves, where its id is taken, and where not
abbrev inserted : Bool → Db → ℤ → ℤ → Outcome
inserted taken db id v = if taken then record { answer = duplicate; db = db } else record { answer = record { rows = []; last = Ok 1 }; db = with_row db id v }

-- the reply with this outcome
abbrev replied : ℕ → Statement → Outcome → Reply
replied commits statement outcome = record {
  rows = outcome.answer.rows;
  last = outcome.answer.last;
  ending = Some (ending_after commits statement outcome.answer.last);
}

-- the reply to an INSERT is one that an output can have, and so are those after it
insert_is : (taken : Bool) (commits : ℕ) (db : Db) (id v : ℤ) (statements : List Statement) → FitsSigned w64 v → HasIntegers db → length db ≤ commits → commits + suc (length statements) < 2 ^ 32 → Later statements
    → IsReply (replied commits (Insert id v) (inserted taken db id v))
    × AllByRecursion IsReply (played (commits_at commits (ending_after commits (Insert id v) (inserted taken db id v).answer.last)) (inserted taken db id v).db statements)
insert_is true commits db id v statements fits has few within later = (
  (tt, (ascii_is_text (codes "t") (lit< tt, tt), ascii_is_text (codes "id") (lit< tt, (lit< tt, tt))), omega (arith, within)),
  later commits db has few (omega (arith, within)),
)
insert_is false commits db id v statements fits has few within later = (
  (tt, lit< tt, omega (arith, within)),
  later (commits + 1) (with_row db id v) (with_row_has db id v has fits) (omega (arith, few, one_more db id v)) (omega (arith, within)),
)

-- the replies of a serial run are such
replies_are : (statements : List Statement) → AllByRecursion HasInteger statements → Later statements
replies_are [] fit commits db has few within = tt
replies_are (Insert id v ∷ statements) fit commits db has few within =
    let both = insert_is (is_some (value_at db id)) commits db id v statements fit.0 has few within (replies_are statements fit.1) in
    (both.0, both.1)
replies_are (Select id ∷ statements) fit commits db has few within =
    let found = at_most (λ row. int_eq row.0 id) db in (
      (rows_are (rows_at db id) (all_filtered (λ row. FitsSigned w64 row.1) (λ row. int_eq row.0 id) db has), omega (arith, found, few, within), omega (arith, within)),
      replies_are statements fit.1 commits db has few (omega (arith, within)),
    )

-- one number ascends
one_ascends : (conn : ℕ) → IsStrictlyIncreasing (conn ∷ [])
one_ascends conn k within = absurd (omega (arith, within))

-- and so is the transcript of the setup script with them
transcripts_are : (replies : List Reply) → AllByRecursion IsReply replies → AreTranscripts (transcripts_of 0 replies)
transcripts_are [] are = ((λ k within. absurd (omega (arith, within))), tt)
transcripts_are (reply ∷ replies) are = (one_ascends 0, ((omega arith, (λ e. cc), are), tt))

-- the transcripts of a script's serial run are such as outputs can have
pub serial_prints : (input : List ℕ) (statements : List Statement) → IsScript input statements → length statements ≤ MAX_STATEMENTS → AreTranscripts (played_alone statements)
serial_prints input statements script few =
    transcripts_are (played 0 empty_db statements) (replies_are statements (script_has input statements script) 0 empty_db tt (omega arith) (omega (arith, few)))

-- the serial run's text is a right output of the input
pub has-right-output : (input : List ℕ) (scripts : List Script) → IsInput input scripts → (output : List ℕ) × IsRightOutput input output
has-right-output input scripts (statements, script, within, few, are) = (
  output_text (played_alone statements),
  record {
    scripts = setup_of statements;
    is_input = (statements, script, within, few, refl);
    transcripts = played_alone statements;
    is_output = (serial_prints input statements script few, refl);
    is_run = right-alone statements;
  },
)
