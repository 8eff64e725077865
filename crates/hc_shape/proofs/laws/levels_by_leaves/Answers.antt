use Rattle.hc_shape.proofs.Levels.{by_leaves}
use Rattle.hc_shape.proofs.laws.levels_by_leaves.Goals as goal

pub returns : goal.returns
returns c = λ node s d h few. by_leaves node s h d few
