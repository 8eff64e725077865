use Rattle.hc_range.proofs.ByteOrder.{below_trans}
use Rattle.hc_range.proofs.laws.the_order_is_transitive.Goals as goal

pub returns : goal.returns
returns c = below_trans
