-- What follows from a right run: transactions are found, and each chain of refusals with 517 ends at a commit.
use Rattle.std.specs.Prelude.{◌≡◌, ℕ, List, [], ◌∷◌}
use Rattle.hc_base.specs.Lookup.{Among}
use Rattle.hc_transcript.specs.declared.refusal.Refusal.TheVariants.{Busy}
use Rattle.hc_transcript.specs.declared.reply.Transcript.{Transcript}
use Rattle.hc_meaning.specs.Runs.Cut.{Script, Transaction}
use Rattle.hc_meaning.specs.Runs.Language.{Language}
use Rattle.hc_meaning.specs.Runs.Met.{PrintsCommit}
use Rattle.hc_meaning.specs.Runs.RightRun.{IsRightRun, transactions_of}
use Rattle.hc_meaning.specs.Runs.Walk.{Refused}
use Rattle.hc_judge.specs.Fronts.{AreTransactions, HasTranscripts}

-- A right run, of any language, has its transcripts and transactions: so scripts and transcripts that do not are no right run.
abbrev pub RightRunHasTransactions : Language → Type 0
RightRunHasTransactions L = (scripts : List Script) (transcripts : List Transcript) → IsRightRun L scripts transcripts
    → HasTranscripts scripts transcripts × ((ts : List Transaction) × AreTransactions scripts transcripts ts)

-- In a right run no two transactions are refused each by the other, whatever the keys are.
abbrev pub NoTwoNameEachOther : Language → Type 0
NoTwoNameEachOther L = (scripts : List Script) (transcripts : List Transcript) (right : IsRightRun L scripts transcripts)
    (x y : Transaction) (key other : List ℕ) → Among x (transactions_of right.connections) → Among y (transactions_of right.connections)
    → x.close ≡ Refused (Busy y.conn y.ordinal key) → y.close ≡ Refused (Busy x.conn x.ordinal other) → ⊥

-- the commit of x was refused with 517 that names y
abbrev pub Names : Transaction → Transaction → Type 0
Names x y = (key : List ℕ) × (x.close ≡ Refused (Busy y.conn y.ordinal key))

-- each of x and the path names the next one, and the last one printed a commit number
abbrev pub ChainsTo : List Transaction → Transaction → List Transaction → Type 0
ChainsTo transactions x [] = PrintsCommit x
ChainsTo transactions x (y ∷ path) = Among y transactions × Names x y × ChainsTo transactions y path

-- In a right run a chain of refusals with 517 begins at each transaction that was refused so, and ends at a commit.
abbrev pub EachChainEndsAtACommit : Language → Type 0
EachChainEndsAtACommit L = (scripts : List Script) (transcripts : List Transcript) (right : IsRightRun L scripts transcripts)
    (x : Transaction) (conn ordinal : ℕ) (key : List ℕ) → Among x (transactions_of right.connections) → x.close ≡ Refused (Busy conn ordinal key)
    → (path : List Transaction) × ChainsTo (transactions_of right.connections) x path
