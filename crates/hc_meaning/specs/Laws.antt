-- Laws of these definitions, each shown by a function of `laws` with an empty body.
use Rattle.std.specs.Prelude.{◌≡◌, ℕ, List, [], ◌∷◌}
use Rattle.hc_transcript.specs.declared.reply.Transcript.{Transcript}
use Rattle.hc_meaning.specs.declared.statement.Statement.{Statement}
use Rattle.hc_meaning.specs.declared.transaction.Script.{Script}
use Rattle.hc_meaning.specs.declared.transaction.Transaction.{Transaction}
use Rattle.hc_meaning.specs.Database.{Db, IsDb}
use Rattle.hc_meaning.specs.Run.{run}
use Rattle.hc_meaning.specs.History.{state}
use Rattle.hc_meaning.specs.Input.{IsInput, IsScript}
use Rattle.hc_meaning.specs.Played.{played_alone}
use Rattle.hc_meaning.specs.RightOutput.{IsRightRun, IsRightOutput}

-- bytes are the script of one list of statements at most
abbrev pub HasOneReading : Type 0
HasOneReading = (bytes : List ℕ) (one other : List Statement) → IsScript bytes one → IsScript bytes other → one ≡ other

-- a statement leaves ids that ascend where it found ids that ascend
abbrev pub RunKeepsIdsInOrder : Type 0
RunKeepsIdsInOrder = (db : Db) (statement : Statement) → IsDb db → IsDb (run db statement).db

-- the ids ascend after any number of commits, whatever the transactions are
abbrev pub EveryStateIsInOrder : Type 0
EveryStateIsInOrder = (history : List Transaction) (k : ℕ) → IsDb (state history k)

-- the setup script's statements, run one after another, are a right run of it
abbrev pub SerialRunIsRight : Type 0
SerialRunIsRight = (statements : List Statement) → IsRightRun (record { conn = 0; statements = statements } ∷ []) (played_alone statements)

-- no run of the setup script alone is right but the serial one
abbrev pub RightRunIsSerial : Type 0
RightRunIsSerial = (statements : List Statement) (transcripts : List Transcript)
    → IsRightRun (record { conn = 0; statements = statements } ∷ []) transcripts → transcripts ≡ played_alone statements

-- each input has a right output
abbrev pub EachInputHasARightOutput : Type 0
EachInputHasARightOutput = (input : List ℕ) (scripts : List Script) → IsInput input scripts → (output : List ℕ) × IsRightOutput input output

-- an input has one right output at most, since the setup script is all of it
abbrev pub HasOneRightOutput : Type 0
HasOneRightOutput = (input one other : List ℕ) → IsRightOutput input one → IsRightOutput input other → one ≡ other
