use Rattle.hc_txn.proofs.Earlier.{nested_after, put_view}
use Rattle.hc_txn.proofs.txn.Txn.put.Goals as goal

pub invariant_of-self : goal.invariant_of-self
invariant_of-self c =
    nested_after c.put.result (record { key = c.args.key.now; rec = _ }) c.self.inside.own.own c.put.new.self.own c.self.inside.statement c.self.inside.marks c.self.invariant c.put.ensures.own c.put.ensures.no_memory

pub returns-clause-put : goal.returns-clause-put
returns-clause-put c =
    rw (← c.self.view_is) (put_view c.put.result (record { key = c.args.key.now; rec = _ }) c.self.inside.own c.put.new.self c.self.inside.snapshot.0 c.self.inside.log c.self.inside.statement c.self.inside.marks c.self.invariant
    c.put.ensures.own c.put.ensures.kept)
