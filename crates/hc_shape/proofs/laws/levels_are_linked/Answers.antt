use Rattle.hc_shape.proofs.Walks.{level_linked}
use Rattle.hc_shape.proofs.laws.levels_are_linked.Goals as goal

pub returns : goal.returns
returns c = λ node s k h within. level_linked node s h k within
