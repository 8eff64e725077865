use Rattle.hc_txn.proofs.OneKey.{last_record, no_record}
use Rattle.hc_txn.proofs.logged.record_in.Goals as goal

pub returns-in-Some : goal.returns-in-Some
returns-in-Some c = last_record c.args.key.now c.args.part.cells c.pop.new.self c.in-Some.cell c.in-Some.ensures

pub returns : goal.returns
returns c = no_record c.args.key.now c.args.part.cells c.in-None.ensures.0
