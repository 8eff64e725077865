use Rattle.hc_core.proofs.Others.{leaves_run}
use Rattle.hc_core.proofs.laws.a_connection_leaves_the_others.Goals as goal

pub returns : goal.returns
returns c = λ i m now later. leaves_run i m now later.0 later.1 later.2
