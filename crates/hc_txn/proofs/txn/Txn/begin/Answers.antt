use Rattle.hc_txn.proofs.Begun.{begun}
use Rattle.hc_txn.proofs.txn.Txn.begin.Goals as goal

pub returns-clause-of : goal.returns-clause-of
returns-clause-of g c =
    begun (g.D.Desk.conn c.args.desk.now) c.begin-snapshot.result (g.D.Desk.account c.args.desk.now) (g.D.Desk.account c.begin-snapshot.new.self) c.new.result c.begin-snapshot.ensures.entry c.new.ensures
