use Rattle.hc_key.proofs.Prefix.{range_holds}
use Rattle.hc_key.proofs.laws.ranges_hold_their_keys.Goals as goal

pub returns : goal.returns
returns c = range_holds c.values_are_equal_in_order_exactly_when_they_are_the_same.ensures
