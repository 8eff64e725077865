-- The commit log: the words of commit numbers are the ids of the committed transactions, up to the first empty one, and with
-- the transactions of all accounts they are sound.
use Rattle.std.specs.Prelude.{◌≡◌, ℕ, ◌+◌, ◌<◌, ◌≤◌, List}
use Rattle.hc_base.specs.Lookup.{Among}
use Rattle.hc_core.specs.Account.{Txn}
use Rattle.hc_core.specs.Sound.{AreSound}

-- `log` has the words of commit numbers, `size` transactions are committed, `drawn` ids are drawn, and `of` has the
-- transactions of each connection; there are ids up to `last`
pub record IsLogged (last : ℕ) (log : ℕ → ℕ) (size drawn : ℕ) (of : ℕ → List Txn) : Type 0 where
  pub empty : (c : ℕ) → size < c → log c ≡ 0
  pub sound : AreSound size (λ c. log (c + 1)) of
  -- the ids of transactions are those from 1 up to the number of ids drawn
  pub drawn_within : (i : ℕ) (t : Txn) → Among t (of i) → t.id ≤ drawn
  pub each_drawn : (id : ℕ) → 0 < id → id ≤ drawn → (i : ℕ) × (t : Txn) × Among t (of i) × (t.id ≡ id)
  pub room : drawn ≤ last
