use Rattle.hc_core.proofs.Played.{one_run}
use Rattle.hc_core.proofs.laws.each_list_of_events_has_one_run.Goals as goal

pub returns : goal.returns
returns c = one_run
