use Rattle.hc_meaning.proofs.Table.Runs.{run_all-more}
use Rattle.hc_meaning.proofs.reference.execution.run_all.Goals as goal

pub loop-statement-preserved : goal.loop-statement-preserved
loop-statement-preserved c =
    run_all-more c.args.db.now c.loop-statement.db c.as_slice.result.now c.args.statements.now c.loop-statement.statement-index _ c.loop-statement.answers c.push.new.self c.in_ok-answer.field-0
    c.loop-statement-test.true c.loop-statement.invariant c.as_slice.ensures c.in_ok-answer.ensures c.in_ok-push.ensures.ok
