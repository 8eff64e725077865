use Rattle.std.proofs.Common.{length}
use Rattle.hc_txn.proofs.Earlier.{nested_in}
use Rattle.hc_txn.proofs.txn.Txn.keep_statement.Goals as goal

pub invariant_of-self : goal.invariant_of-self
invariant_of-self c = nested_in c.self.inside.statement (length c.self.inside.own.own) c.self.inside.marks c.self.invariant
