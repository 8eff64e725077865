use Rattle.hc_shape.proofs.Levels.{twice}
use Rattle.hc_shape.proofs.laws.twice_as_many.Goals as goal

pub returns : goal.returns
returns c = λ node s k h below. twice node s h k below
