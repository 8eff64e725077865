-- Guards of connections that take turns at one machine.
use Rattle.std.specs.Prelude.{ℕ, ◌<◌, List, get_or, length}
use Rattle.hc_core.specs.ListDesk.{Owns}
use Rattle.hc_core.specs.Machine.{Machine, account_of}
use Rattle.hc_test_desks.specs.Guarded.{IsGuarded}
use Rattle.hc_test_desks.specs.declared.guard.Guard.{Guard}

-- a desk may be made for each connection that has a guard, and the guard is that of its account
abbrev pub AreGuarded : Machine → List Guard → Type 0
AreGuarded m guards = (i : ℕ) (d : Guard) → i < length guards → Owns m i × IsGuarded (get_or guards i d) (account_of m i)
