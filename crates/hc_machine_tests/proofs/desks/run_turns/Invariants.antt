use Rattle.hc_test_desks.specs.Turns.{AreGuarded}
use Rattle.hc_machine_tests.proofs.desks.run_turns.Given as goal

-- each guard is that of its account
abbrev pub invariant-loop-conn : goal.invariant-loop-conn
invariant-loop-conn g l = AreGuarded l.core l.guards.items
