use Rattle.std.proofs.Common.{◌≡◌, ◌<◌, ℕ, [], length, get_or}
use Rattle.hc_test_desks.specs.Guarded.{IsGuarded}
use Rattle.hc_test_desks.specs.declared.guard.Guard.{Guard}
use Rattle.hc_test_desks.proofs.turns.new_guards.Given as goal

-- so far each is that of an account without entries
abbrev pub invariant-loop-number : goal.invariant-loop-number
invariant-loop-number l = record {
  long : length l.guards.items ≡ l.number;
  each : (i : ℕ) (d : Guard) → i < length l.guards.items → IsGuarded (get_or l.guards.items i d) [];
}
