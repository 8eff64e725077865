-- When printed bytes are a right output for an input.
use Rattle.std.specs.Prelude.{◌≡◌, ◌≢◌, ◌↔◌, ⊤, ℕ, ◌<◌, ◌≤◌, List, length, map, Some, Contains, slice_get}
use Rattle.std.specs.List.Sorted.{IsStrictlyIncreasing}
use Rattle.hc_transcript.specs.declared.reply.Ending.{Ending}
use Rattle.hc_transcript.specs.declared.reply.Ending.TheVariants.{Commit, Snapshot, RolledBack}
use Rattle.hc_transcript.specs.declared.reply.Transcript.{Transcript}
use Rattle.hc_transcript.specs.Outputs.{IsTextOf}
use Rattle.hc_meaning.specs.declared.transaction.Script.{Script}
use Rattle.hc_meaning.specs.declared.transaction.Transaction.{Transaction}
use Rattle.hc_meaning.specs.Run.{WritesNone}
use Rattle.hc_transcript.specs.Text.{ending_number}
use Rattle.hc_meaning.specs.Transactions.{cut_all}
use Rattle.hc_meaning.specs.History.{state, GivesReplies, IsHistory, IsLegal}
use Rattle.hc_meaning.specs.Input.{IsInput}

-- it is a commit's ending
abbrev pub IsCommitted : Ending → Type 0
IsCommitted (Commit k) = ⊤
IsCommitted (Snapshot s) = ⊥
IsCommitted (RolledBack s) = ⊥

-- A transaction that was not committed and prints s: run on the db after s commits it gives its printed
-- replies, and it prints `snapshot s` only where it has nothing to commit. (Where the cut asks for a commit
-- or a snapshot, under an answer that is ok, it so prints a snapshot exactly where it has nothing to commit.)
pub record IsReadAt (history : List Transaction) (s : ℕ) (t : Transaction) : Type 0 where
  pub within : s ≤ length history
  pub replies : GivesReplies (state history s) t
  pub snapshot : t.ending ≡ Snapshot s → WritesNone (state history s) t.statements

-- the same at the number of its ending, which is an argument of its own so that it can be matched
abbrev pub IsReadUnlessCommitted : List Transaction → Transaction → Ending → Type 0
IsReadUnlessCommitted history t (Commit k) = ⊤
IsReadUnlessCommitted history t (Snapshot s) = IsReadAt history s t
IsReadUnlessCommitted history t (RolledBack s) = IsReadAt history s t

-- each transaction that was not committed was read so
abbrev pub OthersAreRead : List Transaction → List Transaction → Type 0
OthersAreRead transactions history = (t : Transaction) → Contains transactions t → IsReadUnlessCommitted history t t.ending

-- How the printed numbers of the connections lie.
pub record IsInOrder (transactions history : List Transaction) : Type 0 where
  -- Within a connection they never fall, and a commit number is above all earlier numbers.
  pub rising : (t u : Transaction) → Contains transactions t → Contains transactions u → t.conn ≡ u.conn → t.ordinal < u.ordinal
      → (ending_number t.ending ≤ ending_number u.ending) × (IsCommitted u.ending → ending_number t.ending < ending_number u.ending)
  -- The setup's commits are the first, and every number of another connection counts them all.
  pub setup : ℕ
  pub setup_within : setup ≤ length history
  pub setup_first : (k : ℕ) (t : Transaction) → slice_get history k ≡ Some t → (t.conn ≡ 0) ↔ (k < setup)
  pub after_setup : (t : Transaction) → Contains transactions t → t.conn ≢ 0 → setup ≤ ending_number t.ending

-- These transcripts are right for these scripts.
pub record IsRightRun (scripts : List Script) (transcripts : List Transcript) : Type 0 where
  -- The scripts are of different connections, by number.
  pub ascending : IsStrictlyIncreasing (map (λ script. script.conn) scripts)
  -- One transcript for each connection with a statement, one reply for each statement, and endings where
  -- transactions end and nowhere else.
  pub transactions : List Transaction
  pub is_cut : cut_all scripts transcripts ≡ Some transactions
  -- The printed commit numbers are 1 to n, each once; run in that order from the empty db, the
  -- committed transactions give exactly their printed replies, and each changes something.
  pub history : List Transaction
  pub is_history : IsHistory transactions history
  pub is_legal : IsLegal history
  -- Every other transaction's replies are those of the db after as many commits as it prints.
  pub others : OthersAreRead transactions history
  pub in_order : IsInOrder transactions history

-- The output is the text of transcripts that are right for the scripts of the input, and are such as an output can
-- have: no other such transcripts have this text.
pub record IsRightOutput (input output : List ℕ) : Type 0 where
  pub scripts : List Script
  pub is_input : IsInput input scripts
  pub transcripts : List Transcript
  pub is_output : IsTextOf output transcripts
  pub is_run : IsRightRun scripts transcripts
