use Rattle.std.proofs.Common.{◌≤◌}
use Rattle.hc_txn_tests.specs.Lanes.{IsLane}
use Rattle.hc_txn_tests.proofs.histories.play_alone.Given as goal

abbrev pub invariant-loop-line : goal.invariant-loop-line
invariant-loop-line g l = IsLane (g.D.Desk.account l.desk) l.current l.ord × (l.ord ≤ 131072)
