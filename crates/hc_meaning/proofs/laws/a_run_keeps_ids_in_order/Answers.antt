use Rattle.hc_meaning.proofs.Table.Runs.{IsDb-run}
use Rattle.hc_meaning.proofs.laws.a_run_keeps_ids_in_order.Goals as goal

pub returns : goal.returns
returns c = IsDb-run
