-- What the first two parts of a right run say of scripts and transcripts.
use Rattle.std.specs.Prelude.{◌≡◌, List, map}
use Rattle.std.specs.List.{AllByRecursion}
use Rattle.std.specs.List.Sorted.{IsStrictlyIncreasing}
use Rattle.hc_transcript.specs.declared.reply.Transcript.{Transcript}
use Rattle.hc_meaning.specs.Runs.Cut.{Script, Connection, Transaction, IsCutOf, IsRefusedOutside}
use Rattle.hc_meaning.specs.Runs.RightRun.{HasForm, transactions_of}
use Rattle.hc_judge.specs.Pairs.{ArePaired, Paired}
use Rattle.hc_judge.specs.declared.front.Front.{Front}
use Rattle.hc_judge.specs.declared.front.Front.TheVariants as front

-- 1. The scripts are of different connections, by number, and those with a command have the transcripts, with a reply for
-- each command.
pub record HasTranscripts (scripts : List Script) (transcripts : List Transcript) : Type 0 where
  pub by_number : IsStrictlyIncreasing (map (λ script. script.conn) scripts)
  pub pairs : List Paired
  pub paired : ArePaired scripts transcripts pairs

-- 1 and 2. Besides, each transcript is cut into transactions, which are these, and a command in none is refused. The fields
-- are those of `IsRightRun`.
pub record AreTransactions (scripts : List Script) (transcripts : List Transcript) (ts : List Transaction) : Type 0 where
  pub connections : List Connection
  pub form : HasForm scripts transcripts connections
  pub cut : AllByRecursion IsCutOf connections
  pub strays : AllByRecursion (λ c. AllByRecursion IsRefusedOutside c.cut.strays) connections
  pub all : transactions_of connections ≡ ts

-- what is found of scripts and transcripts
abbrev pub IsFound : List Script → List Transcript → Front → Type 0
IsFound scripts transcripts (front.Transactions ts) = AreTransactions scripts transcripts ts.items
IsFound scripts transcripts front.NotPaired = HasTranscripts scripts transcripts → ⊥
IsFound scripts transcripts front.NotCut = HasTranscripts scripts transcripts
    × ((ts : List Transaction) → AreTransactions scripts transcripts ts → ⊥)
