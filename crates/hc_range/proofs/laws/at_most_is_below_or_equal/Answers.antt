use Rattle.hc_range.proofs.ByteOrder.{at_most_from, at_most_cases}
use Rattle.hc_range.proofs.laws.at_most_is_below_or_equal.Goals as goal

pub returns : goal.returns
returns c = λ a b. (at_most_cases a b, at_most_from a b)
