-- The history: the committed transactions in the order of their commit numbers, as one serial run of them.
use Rattle.std.specs.Prelude.{◌≡◌, ℕ, ◌+◌, ◌-◌, ◌<◌, List, take, fold, slice_get, Some, Contains}
use Rattle.hc_transcript.specs.declared.reply.Ending.TheVariants.{Commit}
use Rattle.hc_meaning.specs.Database.{Db, empty_db}
use Rattle.hc_meaning.specs.Run.{run_all, WritesSome}
use Rattle.hc_meaning.specs.declared.transaction.Transaction.{Transaction}

-- the db after a transaction
abbrev pub after : Db → Transaction → Db
after db transaction = (run_all db transaction.statements).db

-- the db after the first k commits of a history, run one after another from the empty db
abbrev pub state : List Transaction → ℕ → Db
state history k = fold after empty_db (take k history)

-- The commit numbers printed are 1 to n, each once, and the history lists their transactions in that
-- order: the one at place k, counted from 0, printed `commit k + 1`, and each one that printed a commit
-- number is at its place.
pub record IsHistory (transactions history : List Transaction) : Type 0 where
  pub printed : (k : ℕ) (t : Transaction) → slice_get history k ≡ Some t → (t.ending ≡ Commit (k + 1)) × Contains transactions t
  pub placed : (k : ℕ) (t : Transaction) → Contains transactions t → t.ending ≡ Commit k → (0 < k) × (slice_get history (k - 1) ≡ Some t)

-- run on this db, a transaction gives its printed replies
abbrev pub GivesReplies : Db → Transaction → Type 0
GivesReplies before t = (run_all before t.statements).answers ≡ t.answers

-- a committed transaction does so on the db that the earlier ones leave, and it changes something
pub record IsLegalAt (before : Db) (t : Transaction) : Type 0 where
  pub replies : GivesReplies before t
  pub writes : WritesSome before t.statements

-- each transaction of the history does: the one at place k on the db after k commits
abbrev pub IsLegal : List Transaction → Type 0
IsLegal history = (k : ℕ) (t : Transaction) → slice_get history k ≡ Some t → IsLegalAt (state history k) t
