use Rattle.hc_txn_tests.proofs.Lanes.{reads_ord}
use Rattle.hc_txn_tests.proofs.lane.get.Goals as goal

pub returns-in_err-found-clause-ords : goal.returns-in_err-found-clause-ords
returns-in_err-found-clause-ords g c = reads_ord (g.D.Desk.conn c.args.desk.now) (g.D.Desk.account c.args.desk.now) (g.D.Desk.account c.get.new.desk) c.in_err-found.ensures.reads

pub returns-clause-ords : goal.returns-clause-ords
returns-clause-ords g c = reads_ord (g.D.Desk.conn c.args.desk.now) (g.D.Desk.account c.args.desk.now) (g.D.Desk.account c.get.new.desk) c.in_ok-found.ensures.reads
