-- How far a connection is in putting the writes of one transaction.
use Rattle.std.specs.Prelude.{◌≡◌, ◌≢◌, ℕ, None, List, [], ◌∷◌}
use Rattle.hc_range.specs.Order.{IsBelow}
use Rattle.hc_core.specs.Account.{IsIdle, WhenOpen, txns}
use Rattle.hc_core.specs.Running.{greatest_ord}
use Rattle.hc_core.specs.declared.account.Entry.{Entry}
use Rattle.hc_core.specs.declared.cells.Write.{Write}

-- no transaction is open
abbrev pub HasNoneOpen : List Entry → Type 0
HasNoneOpen account = IsIdle (txns account)

-- the greatest ordinal with which an id was drawn
abbrev pub last_ord : List Entry → ℕ
last_ord account = greatest_ord (txns account)

-- the open transaction has read nothing, proposes nothing and has room for writes, some of which are put
abbrev pub IsPutting : List Write → List Write → List Entry → Type 0
IsPutting writes done account = WhenOpen (txns account) (λ t. (t.id ≢ 0) × (t.full ≡ None) × (t.place ≡ 0) × (t.proposed ≡ 0)
    × (t.reads ≡ []) × (t.reserved ≡ writes) × (t.write_set ≡ done))

-- a key is below that of the first write, if there is one
abbrev pub IsBelowFirst : List ℕ → List Write → Type 0
IsBelowFirst key [] = Unit {0}
IsBelowFirst key (w ∷ ws) = IsBelow key w.key
