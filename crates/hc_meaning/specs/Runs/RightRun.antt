-- When transcripts are right for scripts, whatever the statements mean.
use Rattle.std.specs.Prelude.{◌≡◌, ◌≢◌, ◌↔◌, ℕ, ◌+◌, ◌<◌, ◌≤◌, Bool, true, false, not, List, [], ◌∷◌, Some, length, map, filter, flat_map, sum_by, slice_get, ⊤, cond}
use Rattle.std.specs.List.{AllByRecursion}
use Rattle.std.specs.List.Sorted.{IsStrictlyIncreasing}
use Rattle.hc_base.specs.declared.full.Full.{Full as Shortage}
use Rattle.hc_base.specs.declared.full.Full.TheVariants.{Pages, Numbers, Transactions}
use Rattle.hc_core.specs.Account.{weight_of}
use Rattle.hc_base.specs.Lookup.{Among}
use Rattle.hc_core.specs.declared.cells.Write.{Write}
use Rattle.hc_transcript.specs.Text.{ending_number}
use Rattle.hc_transcript.specs.declared.refusal.Refusal.{Refusal}
use Rattle.hc_transcript.specs.declared.refusal.Refusal.TheVariants.{Busy, Full}
use Rattle.hc_transcript.specs.declared.reply.Ending.{Ending}
use Rattle.hc_transcript.specs.declared.reply.Ending.TheVariants.{Commit, Snapshot, RolledBack}
use Rattle.hc_transcript.specs.declared.reply.Transcript.{Transcript}
use Rattle.hc_meaning.specs.Runs.Commits.{IsHistory, IsLegal, state, writes_at_base}
use Rattle.hc_meaning.specs.Runs.Cut.{Script, Transaction, Connection, IsCutOf, IsRefusedOutside, is_over}
use Rattle.hc_meaning.specs.Runs.Language.{Language}
use Rattle.hc_meaning.specs.Runs.Met.{IsMet, IsNamed, PrintsCommit}
use Rattle.hc_meaning.specs.Runs.Walk.{Close, Finished, Refused, FellShort, Abandoned}
use Rattle.hc_meaning.specs.Runs.Writes.{AreGiven, writes}

abbrev pub has_command : Script → Bool
has_command script = not (is_over script.commands)

-- The connections with a statement, by number, each with its transcript.
pub record HasForm (scripts : List Script) (transcripts : List Transcript) (connections : List Connection) : Type 0 where
  pub by_number : IsStrictlyIncreasing (map (λ script. script.conn) scripts)
  pub scripts_are : map (λ c. c.script) connections ≡ filter has_command scripts
  pub transcripts_are : map (λ c. c.transcript) connections ≡ transcripts

abbrev pub transactions_of : List Connection → List Transaction
transactions_of connections = flat_map (λ c. c.cut.closed) connections

-- A transaction that was not committed and prints s gives its printed replies on the database after s commits.
pub record IsReadAt (L : Language) (history : List Transaction) (s : ℕ) (t : Transaction) : Type 0 where
  pub within : s ≤ length history
  pub replies : AreGiven L (state L history s) t.items
  -- it prints `snapshot s` only where it has nothing to commit, and a commit is refused only where there is something
  pub snapshot : t.ending ≡ Snapshot s → writes L (state L history s) t.items ≡ []
  pub refused : (refusal : Refusal) → t.close ≡ Refused refusal → writes L (state L history s) t.items ≢ []

abbrev pub IsReadUnlessCommitted : (L : Language) → List Transaction → Transaction → Ending → Type 0
IsReadUnlessCommitted L history t (Commit k) = ⊤
IsReadUnlessCommitted L history t (Snapshot s) = IsReadAt L history s t
IsReadUnlessCommitted L history t (RolledBack s) = IsReadAt L history s t

abbrev pub NamesOneMet : (L : Language) → (transactions history : List Transaction) → Transaction → Type 0
NamesOneMet L transactions history x = (conn ordinal : ℕ) (key : List ℕ) → x.close ≡ Refused (Busy conn ordinal key)
    → (y : Transaction) × IsNamed transactions conn ordinal y × IsMet L transactions history x y key

-- How the printed numbers lie.
pub record IsInOrder (transactions history : List Transaction) : Type 0 where
  -- within a connection they never fall, and a commit number is above all earlier numbers
  pub rising : (t u : Transaction) → Among t transactions → Among u transactions → t.conn ≡ u.conn → t.ordinal < u.ordinal
      → (ending_number t.ending ≤ ending_number u.ending) × (PrintsCommit u → ending_number t.ending < ending_number u.ending)
  -- the setup's commits are the first, and every number of another connection counts them all
  pub setup : ℕ
  pub setup_within : setup ≤ length history
  pub setup_first : (k : ℕ) (t : Transaction) → slice_get history k ≡ Some t → (t.conn ≡ 0) ↔ (k < setup)
  pub after_setup : (t : Transaction) → Among t transactions → t.conn ≢ 0 → setup ≤ ending_number t.ending

-- it asked to commit, and either it did or its commit was refused
abbrev pub asks : Close → Ending → Bool
asks Finished (Commit k) = true
asks Finished (Snapshot s) = false
asks Finished (RolledBack s) = false
asks (Refused refusal) ending = true
asks FellShort ending = true
asks Abandoned ending = false

abbrev pub has_some : List Write → Bool
has_some [] = false
has_some (w ∷ ws) = true

-- the transactions that asked to commit something, and what their writes weigh
abbrev pub committing : (L : Language) → (transactions history : List Transaction) → List Transaction
committing L transactions history =
    filter (λ t. cond (asks t.close t.ending) (has_some (writes_at_base L history t)) false) transactions

abbrev pub weight_committing : (L : Language) → (transactions history : List Transaction) → ℕ
weight_committing L transactions history = sum_by (λ t. weight_of (writes_at_base L history t)) (committing L transactions history)

-- What a commit found used up: ids, one for each of that many others, since this one asked to commit too; or
-- pages or numbers, the first two of which are there from the start.
abbrev pub IsUsedUp : ℕ → ℕ → ℕ → Shortage → Type 0
IsUsedUp count weight number (Transactions n) = n < count
IsUsedUp count weight number (Numbers n) = n ≤ 2 + weight
IsUsedUp count weight number (Pages n floor) = (n ≤ 2 + weight) × (floor.0 ≤ number)

abbrev pub TellsWhatIsUsedUp : (L : Language) → (transactions history : List Transaction) → Transaction → Type 0
TellsWhatIsUsedUp L transactions history t = (full : Shortage) → t.close ≡ Refused (Full full)
    → IsUsedUp (length (committing L transactions history)) (weight_committing L transactions history) (ending_number t.ending) full

-- These transcripts are right for these scripts.
pub record IsRightRun (L : Language) (scripts : List Script) (transcripts : List Transcript) : Type 0 where
  -- 1. There is one transcript for each connection with a statement, by number, with one reply for each statement.
  pub connections : List Connection
  pub form : HasForm scripts transcripts connections
  -- 2. Each is cut into transactions: endings are where they end and nowhere else, each in its form. A statement in no
  -- transaction is refused.
  pub cut : AllByRecursion IsCutOf connections
  pub strays : AllByRecursion (λ c. AllByRecursion IsRefusedOutside c.cut.strays) connections
  -- 3. The commit numbers are 1 to n, each once. Run in that order from the start, the committed transactions give
  -- exactly their printed replies, and each writes something.
  pub history : List Transaction
  pub commits : IsHistory (transactions_of connections) history
  pub legal : IsLegal L history
  -- 4. Every other transaction gives its replies on the database after as many commits as it prints.
  pub others : (t : Transaction) → Among t (transactions_of connections) → IsReadUnlessCommitted L history t t.ending
  -- 5. Each 517 names a transaction of another connection, whose write of the key met what this one read.
  pub conflicts : (t : Transaction) → Among t (transactions_of connections) → NamesOneMet L (transactions_of connections) history t
  -- 6. Within a connection the numbers rise, and the setup's commits are the first.
  pub in_order : IsInOrder (transactions_of connections) history
  -- 7. Each 13 of a commit tells what the transactions that asked to commit can have used up.
  pub used_up : (t : Transaction) → Among t (transactions_of connections) → TellsWhatIsUsedUp L (transactions_of connections) history t
