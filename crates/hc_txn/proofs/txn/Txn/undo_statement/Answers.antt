use Rattle.hc_txn.proofs.Marking.{statement_undone}
use Rattle.hc_txn.proofs.txn.Txn.undo_statement.Goals as goal

pub returns : goal.returns
returns c =
    rw (← c.self.view_is) (statement_undone c.in-Some.count c.self.inside.own c.undo_to.new.self c.self.inside.snapshot.0 c.self.inside.log c.self.inside.statement c.self.inside.marks c.in-Some.is c.self.invariant c.undo_to.ensures.own c.undo_to.ensures.kept)
