use Rattle.hc_shape.proofs.Nodes.{within_top}
use Rattle.hc_shape.proofs.Walks.{reached}
use Rattle.hc_shape.proofs.laws.a_number_has_its_level.Goals as goal

pub returns : goal.returns
returns c = λ node s k n h there. (reached node s h k n there, h.levels k n there, within_top node s h k n there)
