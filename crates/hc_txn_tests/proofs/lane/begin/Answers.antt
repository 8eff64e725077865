use Rattle.hc_txn_tests.proofs.Lanes.{begun_ord}
use Rattle.hc_txn_tests.proofs.lane.begin.Goals as goal

pub returns-clause-ords : goal.returns-clause-ords
returns-clause-ords g c =
    begun_ord (g.D.Desk.conn c.args.desk.now) (record { 0 = c.begin.result.snapshot }) (g.D.Desk.account c.args.desk.now) (g.D.Desk.account c.begin.new.desk) c.begin.ensures.entry
