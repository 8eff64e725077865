use Rattle.hc_key.proofs.Order.{keys_compare}
use Rattle.hc_key.proofs.laws.byte_order_is_value_order.Goals as goal

pub returns : goal.returns
returns c = keys_compare
