use Rattle.std.proofs.Common.{◌≡◌, ◌≤◌, length, drop}
use Rattle.hc_core.specs.Desk.{GoesOn}
use Rattle.hc_test_desks.specs.Putting.{IsPutting, last_ord}
use Rattle.hc_test_desks.proofs.phases.put_all.Given as goal

-- those from here on are put
abbrev pub invariant-loop-left : goal.invariant-loop-left
invariant-loop-left g l = (l.left ≤ length l.writes) × IsPutting l.writes (drop l.left l.writes) (g.D.Desk.account l.desk)
    × (last_ord (g.D.Desk.account l.desk) ≡ last_ord (g.D.Desk.account l.fn.desk))
    × GoesOn g.D.Desk.conn g.D.Desk.most g.D.Desk.seen g.D.Desk.later l.fn.desk l.desk

abbrev pub decreases-loop-left : goal.decreases-loop-left
decreases-loop-left g l = l.left
