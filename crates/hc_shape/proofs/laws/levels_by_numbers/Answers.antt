use Rattle.hc_shape.proofs.Levels.{by_numbers}
use Rattle.hc_shape.proofs.laws.levels_by_numbers.Goals as goal

pub returns : goal.returns
returns c = λ node s d h within. by_numbers node s h d within
