-- What the definitions say of four inputs that were worked out by hand, byte for byte.
use Rattle.std.specs.Prelude.{◌≡◌, ℕ, List, [], ◌∷◌, ◌++◌, codes}
use Rattle.hc_meaning.specs.Input.{BreaksForm}
use Rattle.hc_meaning.specs.RightOutput.{IsRightOutput}

-- lines, each with a line feed after it
abbrev pub text_of : List (List ℕ) → List ℕ
text_of [] = []
text_of (line ∷ lines) = line ++ 10 ∷ text_of lines

-- these lines are a right output for the input, and no other bytes are
pub record HasRightOutput (input : List ℕ) (lines : List (List ℕ)) : Type 0 where
  pub right : IsRightOutput input (text_of lines)
  pub only : (output : List ℕ) → IsRightOutput input output → output ≡ text_of lines

abbrev pub ARowIsReadBack : Type 0
ARowIsReadBack = HasRightOutput (codes "INSERT INTO t VALUES(1,10); SELECT v FROM t WHERE id=1;")
    (codes "conn 0" ∷ codes "ok 1" ∷ codes "commit 1" ∷ codes "row 10" ∷ codes "ok 1" ∷ codes "snapshot 1" ∷ [])

abbrev pub ATakenIdIsRefused : Type 0
ATakenIdIsRefused = HasRightOutput (codes "INSERT INTO t VALUES(1,10); INSERT INTO t VALUES(1,11);")
    (codes "conn 0" ∷ codes "ok 1" ∷ codes "commit 1" ∷ codes "error 1555 't' 'id'" ∷ codes "rolled back 1" ∷ [])

abbrev pub AnAbsentIdHasNoRow : Type 0
AnAbsentIdHasNoRow = HasRightOutput (codes "SELECT v FROM t WHERE id=9;")
    (codes "conn 0" ∷ codes "ok 0" ∷ codes "snapshot 0" ∷ [])

abbrev pub DeleteIsNoStatement : Type 0
DeleteIsNoStatement = BreaksForm (codes "DELETE")
