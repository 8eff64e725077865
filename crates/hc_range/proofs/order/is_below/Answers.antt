use Rattle.std.proofs.Common.{rules}
use Rattle.hc_range.specs.Order.{is_below}
use Rattle.hc_range.proofs.order.is_below.Goals as goal

pub returns : goal.returns
unfolding is_below
returns c = search rules
