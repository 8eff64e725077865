use Rattle.hc_test_desks.specs.Guarded.{IsGuarded}
use Rattle.hc_machine_tests.proofs.desks.run_all.Given as goal

-- the guard is the account's
abbrev pub invariant-loop-what : goal.invariant-loop-what
invariant-loop-what g l = IsGuarded l.guard (g.D.Desk.account l.desk)
