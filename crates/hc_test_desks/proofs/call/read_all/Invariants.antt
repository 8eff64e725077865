use Rattle.hc_core.specs.Desk.{GoesOn}
use Rattle.hc_test_desks.specs.Guarded.{IsGuarded}
use Rattle.hc_test_desks.proofs.call.read_all.Given as goal

-- the guard is the account's
abbrev pub invariant-loop-turn : goal.invariant-loop-turn
invariant-loop-turn g l = IsGuarded l.guard (g.D.Desk.account l.desk)
    × GoesOn g.D.Desk.conn g.D.Desk.most g.D.Desk.seen g.D.Desk.later l.fn.desk l.desk
