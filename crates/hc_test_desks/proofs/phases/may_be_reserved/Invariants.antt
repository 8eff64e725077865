use Rattle.std.proofs.Common.{◌≤◌, length, drop}
use Rattle.hc_core.specs.Desk.{AreAscendingWrites, EachFits}
use Rattle.hc_test_desks.proofs.phases.may_be_reserved.Given as goal

-- those from here on may be reserved
abbrev pub invariant-loop-left : goal.invariant-loop-left
invariant-loop-left l = (l.left ≤ length l.writes) × AreAscendingWrites (drop l.left l.writes) × EachFits (drop l.left l.writes)

abbrev pub decreases-loop-left : goal.decreases-loop-left
decreases-loop-left l = l.left
