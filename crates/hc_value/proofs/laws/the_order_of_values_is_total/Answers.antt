use Rattle.hc_value.proofs.Total.{value_order_total}
use Rattle.hc_value.proofs.laws.the_order_of_values_is_total.Goals as goal

pub returns : goal.returns
returns c = value_order_total
