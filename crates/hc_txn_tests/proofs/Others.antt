-- The connection whose turn it is not waits.
use Rattle.std.proofs.Common.{◌≡◌, sym, subst, ℕ, ◌+◌, Option, Some, None, List, arith}
use Rattle.hc_core.specs.Machine.{Machine, account_of}
use Rattle.hc_core.specs.declared.account.Entry.{Entry}
use Rattle.hc_txn.specs.Transactions.{Transaction}
use Rattle.hc_txn_tests.specs.Lanes.{IsLane}

-- a later ordinal may come too
later_ord : (account : List Entry) (current : Option Transaction) (ord : ℕ) → IsLane account current ord → IsLane account current (ord + 1)
later_ord account None ord h = (h.0, omega (arith, h.1))
later_ord account (Some txn) ord h = (h.0, omega (arith, h.1))

-- the other connection waits for its turn
pub waits : (m now : Machine) (j : ℕ) (current : Option Transaction) (ord : ℕ) → account_of now j ≡ account_of m j → IsLane (account_of m j) current ord → IsLane (account_of now j) current (ord + 1)
waits m now j current ord e h = subst (λ (a : List Entry). IsLane a current (ord + 1)) (sym e) (later_ord (account_of m j) current ord h)
