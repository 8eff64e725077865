use Rattle.hc_txn_tests.proofs.Lanes.{reads_ord}
use Rattle.hc_txn_tests.proofs.lane.last.Goals as goal

pub returns-in_err-some-clause-ords : goal.returns-in_err-some-clause-ords
returns-in_err-some-clause-ords g c = reads_ord (g.D.Desk.conn c.args.desk.now) (g.D.Desk.account c.args.desk.now) (g.D.Desk.account c.last.new.desk) c.in_err-some.ensures.reads

pub returns-clause-ords : goal.returns-clause-ords
returns-clause-ords g c = reads_ord (g.D.Desk.conn c.args.desk.now) (g.D.Desk.account c.args.desk.now) (g.D.Desk.account c.last.new.desk) c.in_ok-some.ensures.reads
