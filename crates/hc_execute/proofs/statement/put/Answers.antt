use Rattle.hc_execute.proofs.Doing.{key_within}
use Rattle.hc_execute.proofs.statement.put.Goals as goal

pub returns-in-Ok-clause-log : goal.returns-in-Ok-clause-log
returns-in-Ok-clause-log g c = key_within c.args.key.now c.args.txn.now.log c.write.new.self.log c.in-Ok.ensures.written.2
