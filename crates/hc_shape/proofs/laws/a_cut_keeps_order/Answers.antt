use Rattle.hc_shape.proofs.Leaves.{ascends_still}
use Rattle.hc_shape.proofs.laws.a_cut_keeps_order.Goals as goal

pub returns : goal.returns
returns c = ascends_still
