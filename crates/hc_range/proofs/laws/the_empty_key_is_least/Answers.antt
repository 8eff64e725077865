use Rattle.hc_range.proofs.ByteOrder.{empty_least}
use Rattle.hc_range.proofs.laws.the_empty_key_is_least.Goals as goal

pub returns : goal.returns
returns c = empty_least
