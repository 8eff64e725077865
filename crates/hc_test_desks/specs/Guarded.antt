-- What a guard knows of its connection's open transaction.
use Rattle.std.specs.Prelude.{◌≡◌, ◌≢◌, ℕ, ◌≤◌, None, List}
use Rattle.hc_range.specs.Ranges.{InAny}
use Rattle.hc_core.specs.Account.{HasRead, IsIdle, Txn, WhenOpen, txns}
use Rattle.hc_core.specs.Running.{greatest_ord}
use Rattle.hc_core.specs.declared.account.Entry.{Entry}
use Rattle.hc_test_desks.specs.declared.guard.Guard.{Guard}
use Rattle.hc_test_desks.specs.declared.guard.Stage.{Stage}
use Rattle.hc_test_desks.specs.declared.guard.Stage.TheVariants.{Idle, Reading, Writing, Proposing, Decided, Full}

-- a transaction is at a stage
abbrev pub IsAt : Stage → Txn → Type 0
IsAt Idle t = ⊥
IsAt Reading t = (t.id ≡ 0) × (t.full ≡ None) × (t.place ≡ 0) × (t.proposed ≡ 0)
IsAt Writing t = (t.id ≢ 0) × (t.full ≡ None) × (t.place ≡ 0) × (t.proposed ≡ 0)
IsAt Proposing t = (t.id ≢ 0) × (t.full ≡ None) × (t.place ≡ 0) × (t.proposed ≢ 0)
IsAt Decided t = t.place ≢ 0
IsAt Full t = ⊥

-- a guard knows the stage of a transaction, all that it read, no more than what counts as checked, the writes for which it
-- has room, and its write set
abbrev pub Knows : Stage → Guard → Txn → Type 0
Knows stage g t = IsAt stage t × ((key : List ℕ) → HasRead t key → InAny g.reads key)
    × ((key : List ℕ) → InAny g.checked key → InAny t.checked key) × (t.reserved ≡ g.reserved.items) × (t.write_set ≡ g.put.items)

-- no transaction is open, or the guard knows the open one; once something was full, its write set alone
abbrev pub KnowsOpen : Stage → Guard → List Txn → Type 0
KnowsOpen Idle g ts = IsIdle ts
KnowsOpen Reading g ts = WhenOpen ts (Knows Reading g)
KnowsOpen Writing g ts = WhenOpen ts (Knows Writing g)
KnowsOpen Proposing g ts = WhenOpen ts (Knows Proposing g)
KnowsOpen Decided g ts = WhenOpen ts (Knows Decided g)
KnowsOpen Full g ts = WhenOpen ts (λ t. t.write_set ≡ g.put.items)

-- a guard is that of an account; no ordinal is above its own
abbrev pub IsGuarded : Guard → List Entry → Type 0
IsGuarded g account = KnowsOpen g.stage g (txns account) × (greatest_ord (txns account) ≤ g.ord)
