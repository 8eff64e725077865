use Rattle.hc_core.proofs.Others.{leaves_run}
use Rattle.hc_txn_tests.proofs.room.turn.Goals as goal

pub returns-clause-others : goal.returns-clause-others
returns-clause-others c =
    let later = c.step.ensures.on.3.2 in
    (leaves_run c.args.conn c.args.desk.now.core.now _ later.0 later.1 later.2).0
