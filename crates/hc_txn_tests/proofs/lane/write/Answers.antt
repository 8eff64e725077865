use Rattle.hc_txn_tests.proofs.Lanes.{reads_ord}
use Rattle.hc_txn_tests.proofs.lane.write.Goals as goal

pub returns-in-Ok-clause-ords : goal.returns-in-Ok-clause-ords
returns-in-Ok-clause-ords g c = reads_ord (g.D.Desk.conn c.args.desk.now) (g.D.Desk.account c.args.desk.now) (g.D.Desk.account c.write.new.desk) c.in-Ok.ensures.reads

pub returns-clause-ords : goal.returns-clause-ords
returns-clause-ords g c = reads_ord (g.D.Desk.conn c.args.desk.now) (g.D.Desk.account c.args.desk.now) (g.D.Desk.account c.write.new.desk) c.in-Err-NoMemory.ensures.reads
