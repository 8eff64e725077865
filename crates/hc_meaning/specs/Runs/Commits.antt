-- The history: the committed transactions in the order of their commit numbers, as one serial run of them.
use Rattle.std.specs.Prelude.{◌≡◌, ◌≢◌, ℕ, ◌+◌, ◌-◌, List, [], take, fold, slice_get, Some}
use Rattle.hc_base.specs.Lookup.{Among}
use Rattle.hc_core.specs.declared.cells.Write.{Write}
use Rattle.hc_transcript.specs.declared.reply.Ending.{Ending}
use Rattle.hc_transcript.specs.declared.reply.Ending.TheVariants.{Commit, Snapshot, RolledBack}
use Rattle.hc_meaning.specs.Runs.Cut.{Transaction}
use Rattle.hc_meaning.specs.Runs.Language.{Language}
use Rattle.hc_meaning.specs.Runs.Writes.{AreGiven, left_by, writes, footprint}
use Rattle.hc_range.specs.declared.range.Range.{Range}

-- the database after a transaction
abbrev pub after : (L : Language) → L.Db → Transaction → L.Db
after L db t = left_by L db t.items

-- the database after the first k commits, run one after another from the start
abbrev pub state : (L : Language) → List Transaction → ℕ → L.Db
state L history k = fold (after L) L.start (take k history)

-- The commit numbers printed are 1 to n, each once, and the history lists their transactions in that order.
pub record IsHistory (transactions history : List Transaction) : Type 0 where
  -- the one at place k, counted from 0, printed `commit k + 1`
  pub printed : (k : ℕ) (t : Transaction) → slice_get history k ≡ Some t → (t.ending ≡ Commit (k + 1)) × Among t transactions
  -- and each one that printed a commit number is at its place
  pub placed : (k : ℕ) (t : Transaction) → Among t transactions → t.ending ≡ Commit k → (k ≢ 0) × (slice_get history (k - 1) ≡ Some t)

-- A committed transaction gives its printed replies on the database that the earlier ones leave, and writes something.
pub record IsLegalAt (L : Language) (before : L.Db) (t : Transaction) : Type 0 where
  pub replies : AreGiven L before t.items
  pub writes_some : writes L before t.items ≢ []

abbrev pub IsLegal : (L : Language) → List Transaction → Type 0
IsLegal L history = (k : ℕ) (t : Transaction) → slice_get history k ≡ Some t → IsLegalAt L (state L history k) t

-- the number of commits before a transaction: those that its snapshot counts, or those before its own
abbrev pub base_number : Ending → ℕ
base_number (Commit k) = k - 1
base_number (Snapshot s) = s
base_number (RolledBack s) = s

-- the database that a transaction is judged on
abbrev pub base : (L : Language) → List Transaction → Transaction → L.Db
base L history t = state L history (base_number t.ending)

-- what it writes and what it reads there
abbrev pub writes_at_base : (L : Language) → List Transaction → Transaction → List Write
writes_at_base L history t = writes L (base L history t) t.items

abbrev pub footprint_at_base : (L : Language) → List Transaction → Transaction → List Range
footprint_at_base L history t = footprint L (base L history t) t.items
