-- The examples: their inputs are scripts, and their outputs are computed from the serial runs of these.
use Rattle.std.proofs.Common.{◌≡◌, ap, sym, refl, inl, inr, ⊎_elim, arith, lit<, ℕ, pos, ◌<◌, ◌≤◌, ◌^◌, List, [], ◌∷◌, ◌++◌, length, get_or, codes}
use Rattle.std.specs.Prelude.{decimal}
use Rattle.std.specs.Fmt.{digits}
use Rattle.hc_transcript.specs.Text.{output_text}
use Rattle.hc_meaning.specs.declared.limits.TheConstants.{MAX_INPUT, MAX_STATEMENTS}
use Rattle.hc_meaning.specs.declared.statement.Statement.{Statement}
use Rattle.hc_meaning.specs.declared.statement.Statement.TheVariants.{Insert, Select}
use Rattle.hc_meaning.specs.Input.{IsNumber, IsScript, IsStatement}
use Rattle.hc_meaning.specs.Played.{played_alone}
use Rattle.hc_meaning.specs.RightOutput.{IsRightOutput}
use Rattle.hc_meaning.specs.Examples.{text_of, HasRightOutput, ARowIsReadBack, ATakenIdIsRefused, AnAbsentIdHasNoRow, DeleteIsNoStatement}
use Rattle.hc_meaning.proofs.SerialRun.Alone.{right-alone}
use Rattle.hc_meaning.proofs.OneRun.OnlyOutput.{only-output}
use Rattle.hc_meaning.proofs.Language.Scripts.{First, script_first}
use Rattle.hc_meaning.proofs.SerialRun.SerialOutput.{serial_prints}
use Rattle.hc_meaning.proofs.Language.Statements.{statement_head}

-- a script's output is that of its serial run
from_script : (input : List ℕ) (lines : List (List ℕ)) (statements : List Statement) → IsScript input statements → length input ≤ MAX_INPUT → length statements ≤ MAX_STATEMENTS → text_of lines ≡ output_text (played_alone statements)
    → HasRightOutput input lines
from_script input lines statements is_script within few is_output =
    let right : IsRightOutput input (text_of lines) = record {
      scripts = record { conn = 0; statements = statements } ∷ [];
      is_input = (statements, is_script, within, few, refl);
      transcripts = played_alone statements;
      is_output = (serial_prints input statements is_script few, is_output);
      is_run = right-alone statements;
    } in
    record { right = right; only = λ output other. only-output input output (text_of lines) other right }

-- the decimal text of a number is its text
number : (k : ℕ) → k < 2 ^ 63 → IsNumber (decimal k) (pos k)
number k small = (k, small, refl, refl)

-- the text of an INSERT or a SELECT with decimal numbers is a statement
insert : (id v : ℕ) → id < 2 ^ 63 → v < 2 ^ 63 → IsStatement (codes "INSERT INTO t VALUES(" ++ decimal id ++ codes "," ++ decimal v ++ codes ");") (Insert (pos id) (pos v))
insert id v small_id small_v = (decimal id, decimal v, number id small_id, number v small_v, refl)

select : (id : ℕ) → id < 2 ^ 63 → IsStatement (codes "SELECT v FROM t WHERE id=" ++ decimal id ++ codes ";") (Select (pos id))
select id small = (decimal id, number id small, refl)

-- the output of each example is that of its serial run
pub a_row_is_read_back : ARowIsReadBack
unfolding digits
a_row_is_read_back = from_script _ _ (Insert (pos 1) (pos 10) ∷ Select (pos 1) ∷ []) (
  [],
  codes "INSERT INTO t VALUES(1,10);",
  codes " SELECT v FROM t WHERE id=1;",
  tt,
  insert 1 10 (lit< tt) (lit< tt),
  refl,
  (codes " ", codes "SELECT v FROM t WHERE id=1;", [], (inl refl, tt), select 1 (lit< tt), refl, tt),
)
    (omega arith) (omega arith) refl

pub a_taken_id_is_refused : ATakenIdIsRefused
unfolding digits
a_taken_id_is_refused = from_script _ _ (Insert (pos 1) (pos 10) ∷ Insert (pos 1) (pos 11) ∷ []) (
  [],
  codes "INSERT INTO t VALUES(1,10);",
  codes " INSERT INTO t VALUES(1,11);",
  tt,
  insert 1 10 (lit< tt) (lit< tt),
  refl,
  (codes " ", codes "INSERT INTO t VALUES(1,11);", [], (inl refl, tt), insert 1 11 (lit< tt) (lit< tt), refl, tt),
)
    (omega arith) (omega arith) refl

pub an_absent_id_has_no_row : AnAbsentIdHasNoRow
unfolding digits
an_absent_id_has_no_row = from_script _ _ (Select (pos 9) ∷ [])
    ([], codes "SELECT v FROM t WHERE id=9;", [], tt, select 9 (lit< tt), refl, tt)
    (omega arith) (omega arith) refl

-- a lower byte is another
other_byte : (a b : ℕ) → a < b → a ≡ b → ⊥
other_byte a b less e = omega arith

-- the first letter is no statement's, and no blank
pub delete_is_no_statement : DeleteIsNoStatement
delete_is_no_statement scripts (statements, is_script, within, few, are) =
    let first : First (codes "DELETE") statements =
    script_first (codes "DELETE") statements (λ blank. ⊎_elim (λ e. other_byte 32 68 (lit< tt) (sym e)) (λ e. other_byte 10 68 (lit< tt) (sym e)) blank) (λ e. cc) is_script in
    elim (statement_head (codes "DELETE") first.statement first.rest first.begins) [
      | inl head ↦ other_byte 68 73 (lit< tt) (ap (λ (l : List ℕ). get_or l 0 0) head.1)
      | inr head ↦ other_byte 68 83 (lit< tt) (ap (λ (l : List ℕ). get_or l 0 0) head.1)
    ]
