use Rattle.hc_key.proofs.Prefix.{keys_differ}
use Rattle.hc_key.proofs.laws.keys_of_different_lists_differ.Goals as goal

pub returns : goal.returns
returns c = keys_differ c.values_are_equal_in_order_exactly_when_they_are_the_same.ensures
