-- What holds of the transactions of scripts and transcripts.
use Rattle.std.specs.Prelude.{List, ⊤}
use Rattle.hc_transcript.specs.declared.reply.Transcript.{Transcript}
use Rattle.hc_meaning.specs.Runs.Cut.{Script, Transaction}
use Rattle.hc_judge.specs.Fronts.{AreTransactions}
use Rattle.hc_judge.specs.declared.front.Front.{Front}
use Rattle.hc_judge.specs.declared.front.Front.TheVariants as front
use Rattle.hc_verdict.specs.Histories.{DifferByName}

-- The connection and the ordinal tell a transaction.
abbrev pub TransactionsDifferByName : Type 0
TransactionsDifferByName = (scripts : List Script) (transcripts : List Transcript) (ts : List Transaction) → AreTransactions scripts transcripts ts → DifferByName ts

-- so do those that are found
abbrev pub DifferWhereFound : Front → Type 0
DifferWhereFound (front.Transactions ts) = DifferByName ts.items
DifferWhereFound front.NotPaired = ⊤
DifferWhereFound front.NotCut = ⊤
