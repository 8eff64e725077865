use Rattle.hc_shape.proofs.First.{first_is_shape}
use Rattle.hc_shape.proofs.laws.shape_first.Goals as goal

pub returns : goal.returns
returns c = first_is_shape
