use Rattle.hc_range.proofs.ByteOrder.{prefix_below}
use Rattle.hc_range.proofs.laws.a_proper_prefix_is_below.Goals as goal

pub returns : goal.returns
returns c = prefix_below
