use Rattle.hc_txn_tests.proofs.Lanes.{reads_ord}
use Rattle.hc_txn_tests.proofs.lane.range.Goals as goal

pub returns-in_err-read_range-clause-ords : goal.returns-in_err-read_range-clause-ords
returns-in_err-read_range-clause-ords g c =
    reads_ord (g.D.Desk.conn c.args.desk.now) (g.D.Desk.account c.args.desk.now) (g.D.Desk.account c.read_range.new.desk) c.in_err-read_range.ensures.reads

pub returns-clause-ords : goal.returns-clause-ords
returns-clause-ords g c = reads_ord (g.D.Desk.conn c.args.desk.now) (g.D.Desk.account c.args.desk.now) (g.D.Desk.account c.read_range.new.desk) c.in_ok-read_range.ensures.reads
