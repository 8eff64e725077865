use Rattle.hc_shape.proofs.Nodes.{stays_both}
use Rattle.hc_shape.proofs.laws.stays_on.Goals as goal

pub returns : goal.returns
returns c = stays_both
