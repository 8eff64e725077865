-- What a commit answers, and what its desk's account has then.
use Rattle.std.specs.Prelude.{◌≡◌, ◌≢◌, ℕ, ◌<◌, ◌≤◌, ◌⊎◌, true, List, [], ◌∷◌}
use Rattle.hc_base.specs.declared.full.Full.{Full as FullOf}
use Rattle.hc_base.specs.declared.numbers.Cid.{Cid}
use Rattle.hc_range.specs.declared.range.Range.{Range}
use Rattle.hc_core.specs.Account.{Txn}
use Rattle.hc_core.specs.Desk.{AreAscendingWrites, EachFits, HasNoRoom, with_room}
use Rattle.hc_core.specs.declared.account.Entry.{Entry}
use Rattle.hc_core.specs.declared.cells.Write.{Write}
use Rattle.hc_core.specs.declared.stop.ReserveFault.TheVariants.{Full as NoRoom}
use Rattle.hc_transcript.specs.declared.reply.Ending.{Ending}
use Rattle.hc_transcript.specs.declared.reply.Ending.TheVariants.{Commit, Snapshot, RolledBack}
use Rattle.hc_txn.specs.Net.{AreNetWrites}
use Rattle.hc_txn.specs.Stores.{Store, Agrees}
use Rattle.hc_txn.specs.Transactions.{Transaction, reads_of}
use Rattle.hc_commit.specs.Checks.{HasSettled}
use Rattle.hc_commit.specs.Entries.{with_puts}
use Rattle.hc_commit.specs.Giving.{HasMet}
use Rattle.hc_commit.specs.declared.committing.CommitFault.{CommitFault}
use Rattle.hc_commit.specs.declared.committing.CommitFault.TheVariants.{Full, Met, NoMemory}
use Rattle.hc_commit.specs.declared.proposal.Proposal.TheVariants.{Won}

-- the net writes of a transaction that is of a desk with this account, in ascending order of keys
pub record AreNetWritesOf (account : List Entry) (txn : Transaction) (writes : List Write) : Type 0 where
  pub net : (store : Store) → Agrees (reads_of account) store → AreNetWrites txn.own store writes
  pub ascending : AreAscendingWrites writes
  pub fit : EachFits writes

-- a transaction was committed: room was made for its net writes, which were put in ascending order, and a proposal was won
abbrev pub HasCommitted : ℕ → ℕ → ℕ → List Range → List Write → Cid → List Entry → List Entry → Type 0
HasCommitted conn ord most log writes number before after = (id : ℕ) × (id ≢ 0)
    × HasSettled conn log most (Won number) (with_puts conn writes (with_room conn ord writes id before)) after

-- The desk has no room, or memory ran out, and nothing was put. Or another transaction was met by a put or by a check, and all
-- that was put was taken out.
abbrev pub HasGivenUp : ℕ → ℕ → ℕ → List Range → List Write → CommitFault → List Entry → List Entry → Type 0
HasGivenUp conn ord most log writes (Full full) before after = HasNoRoom conn ord writes (NoRoom full) before after
HasGivenUp conn ord most log writes NoMemory before after = after ≡ before
HasGivenUp conn ord most log writes (Met met) before after = (id : ℕ) × (id ≢ 0)
    × HasMet conn log most writes met (with_room conn ord writes id before) after

-- What a commit did before it ended at the desk, where it succeeds: it committed its net writes, of which there are some; or
-- there are none, and then nothing was done.
abbrev pub HasSucceeded : ℕ → ℕ → ℕ → Transaction → Ending → List Entry → List Entry → Type 0
HasSucceeded conn ord most txn (Commit number) before after = (writes : List Write) × AreNetWritesOf before txn writes × (writes ≢ [])
    × HasCommitted conn ord most txn.log writes (record { 0 = number }) before after
HasSucceeded conn ord most txn (Snapshot snapshot) before after = (snapshot ≡ txn.snapshot) × AreNetWritesOf before txn [] × (after ≡ before)
HasSucceeded conn ord most txn (RolledBack snapshot) before after = ⊥

-- And where it fails: memory ran out before anything was done, or it gave up with its net writes, of which there are some.
abbrev pub HasFailed : ℕ → ℕ → ℕ → Transaction → CommitFault → List Entry → List Entry → Type 0
HasFailed conn ord most txn fault before after = ((fault ≡ NoMemory) × (after ≡ before))
    ⊎ ((writes : List Write) × AreNetWritesOf before txn writes × (writes ≢ []) × HasGivenUp conn ord most txn.log writes fault before after)

-- what was full is something that the desk may find full
abbrev pub IsFullFor : (FullOf → Type 0) → CommitFault → Type 0
IsFullFor fills (Full full) = fills full
IsFullFor fills fault = Unit {0}

-- a commit number is above what was seen, and seen then
abbrev pub IsNewNumber : Ending → ℕ → ℕ → Type 0
IsNewNumber (Commit number) seen seen_after = (seen < number) × (number ≤ seen_after)
IsNewNumber _ seen seen_after = Unit {0}

-- the newest transaction has ended, and nothing of it is put
abbrev pub HasEndedBare : List Txn → Type 0
HasEndedBare [] = ⊥
HasEndedBare (t ∷ ts) = (t.ended ≡ true) × (t.write_set ≡ [])
