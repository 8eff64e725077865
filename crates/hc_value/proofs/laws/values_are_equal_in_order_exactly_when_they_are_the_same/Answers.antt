use Rattle.hc_value.proofs.Total.{same_from_tie, tie_from_same}
use Rattle.hc_value.proofs.laws.values_are_equal_in_order_exactly_when_they_are_the_same.Goals as goal

pub returns : goal.returns
returns c = λ a b. (same_from_tie a b, tie_from_same a b)
