use Rattle.std.proofs.Common.{◌≤◌}
use Rattle.hc_txn_tests.specs.Lanes.{ArePair}
use Rattle.hc_txn_tests.proofs.histories.play.Given as goal

abbrev pub invariant-loop-line : goal.invariant-loop-line
invariant-loop-line g l = ArePair l.desk.core.now l.pair.one l.pair.two l.ord × (l.ord ≤ 131072)
