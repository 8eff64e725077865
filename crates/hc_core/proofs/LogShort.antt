-- The keys that the log puts are short where those in the write sets of transactions are.
use Rattle.std.proofs.Common.{inl, inr, refl, ℕ, zero, suc, ◌+◌, ◌≤◌, List, [], ◌∷◌, length, take, drop}
use Rattle.hc_core.specs.Keys.{IsShortKey}
use Rattle.hc_base.specs.Lookup.{Among}
use Rattle.hc_core.specs.Account.{Txn, HoldsKey, HasWritten}
use Rattle.hc_core.specs.Commits.{AreCommits, AreShort, AreShortWrites}
use Rattle.hc_core.specs.declared.cells.Write.{Write}
use Rattle.hc_core.specs.declared.commit.Commit.{Commit}

-- writes of short keys alone are short
short_writes : (ws : List Write) → ((key : List ℕ) → HoldsKey ws key → IsShortKey key) → AreShortWrites ws
short_writes [] each = tt
short_writes (w ∷ ws) each = (each w.key (w.rec, inl refl), short_writes ws (λ key held. each key (held.0, inr held.1)))

-- the log's keys are short
pub short_logged : (of : ℕ → List Txn) (c : ℕ) (commits : List Commit) → AreCommits of c commits
    → ((i : ℕ) (t : Txn) (key : List ℕ) → Among t (of i) → HasWritten t key → IsShortKey key) → AreShort commits
short_logged of c [] are each = tt
short_logged of c (commit ∷ commits) are each = (
  short_writes commit.writes.items
      (λ key held. each commit.conn are.0.0 key are.0.1 (held.0, (are.0.5 (record { key = key; rec = held.0 })).0 held.1)),
  short_logged of (c + 1) commits are.1 each,
)

-- and so are those of a part of it
pub short_take : (commits : List Commit) (n : ℕ) → AreShort commits → AreShort (take n commits)
short_take commits zero short = tt
short_take [] (suc n) short = tt
short_take (commit ∷ commits) (suc n) short = (short.0, short_take commits n short.1)

-- and so are those of the entries after its first n
pub short_drop : (commits : List Commit) (n : ℕ) → AreShort commits → AreShort (drop n commits)
short_drop commits zero short = short
short_drop [] (suc n) short = tt
short_drop (commit ∷ commits) (suc n) short = short_drop commits n short.1
