use Rattle.hc_plan.proofs.OnPath.{on_path}
use Rattle.hc_plan.proofs.laws.a_true_row_is_on_the_path.Goals as goal

pub returns : goal.returns
returns c = on_path
