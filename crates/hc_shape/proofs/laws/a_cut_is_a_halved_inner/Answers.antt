use Rattle.hc_shape.proofs.Plans.{halved_inner}
use Rattle.hc_shape.proofs.laws.a_cut_is_a_halved_inner.Goals as goal

pub returns : goal.returns
returns c = halved_inner
