use Rattle.hc_shape.proofs.Least.{there_is}
use Rattle.hc_shape.proofs.laws.there_is_a_cut.Goals as goal

pub returns : goal.returns
returns c = there_is
