use Rattle.hc_range.proofs.ByteOrder.{order_total}
use Rattle.hc_range.proofs.laws.the_order_is_total.Goals as goal

pub returns : goal.returns
returns c = order_total
