-- One connection of a run: it has a transaction open, or none.
use Rattle.std.specs.Prelude.{◌≡◌, ℕ, ◌<◌, Option, Some, None, List}
use Rattle.hc_core.specs.Account.{IsIdle, txns}
use Rattle.hc_core.specs.Machine.{Machine, account_of}
use Rattle.hc_core.specs.Running.{greatest_ord}
use Rattle.hc_core.specs.declared.account.Entry.{Entry}
use Rattle.hc_txn.specs.Transactions.{IsOf, Transaction}

-- the open transaction, if there is one, is of the connection's desk, and a commit with this ordinal may come
abbrev pub IsLane : List Entry → Option Transaction → ℕ → Type 0
IsLane account None ord = IsIdle (txns account) × (greatest_ord (txns account) < ord)
IsLane account (Some txn) ord = IsOf account txn × (greatest_ord (txns account) < ord)

-- what a desk knows of a transaction stays
abbrev pub KeepsReads : Transaction → Transaction → Type 0
KeepsReads before after = (after.snapshot ≡ before.snapshot) × (after.log ≡ before.log) × (after.kept ≡ before.kept)

-- connections 1 and 2 of a machine
abbrev pub ArePair : Machine → Option Transaction → Option Transaction → ℕ → Type 0
ArePair m one two ord = IsLane (account_of m 1) one ord × IsLane (account_of m 2) two ord
