use Rattle.std.proofs.Common.{◌≤◌}
use Rattle.hc_txn_tests.specs.Lanes.{IsLane}
use Rattle.hc_txn_tests.proofs.random.played.Given as goal

abbrev pub invariant-loop-what : goal.invariant-loop-what
invariant-loop-what g l = IsLane (g.D.Desk.account l.desk) l.current l.ord × (l.ord ≤ 131072)
