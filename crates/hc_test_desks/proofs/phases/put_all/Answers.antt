use Rattle.std.proofs.Common.{◌-◌}
use Rattle.hc_test_desks.proofs.Reserved.{here_first, next_may}
use Rattle.hc_test_desks.proofs.phases.put_all.Goals as goal

-- the writes after this one are put, and this one is not
pub put-requires : goal.put-requires
put-requires g c = record {
  reserved = next_may c.args.writes.now (c.loop-left.left - 1) c.loop-left.left c.index-writes-left.result (g.D.Desk.account c.loop-left.desk)
      (here_first c.args.writes.now c.loop-left.left c.index-writes-left.result c.loop-left-test.true c.loop-left.invariant.0 c.index-writes-left.is)
      c.requires.ascending c.loop-left.invariant.1;
}
