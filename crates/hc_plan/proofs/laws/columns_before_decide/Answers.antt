use Rattle.hc_plan.proofs.Before.{decide}
use Rattle.hc_plan.proofs.laws.columns_before_decide.Goals as goal

pub returns : goal.returns
returns c = λ offset row other e agree. decide offset row other agree e
