use Rattle.hc_range.proofs.ByteOrder.{successor_next, successor_above}
use Rattle.hc_range.proofs.laws.a_successor_is_next.Goals as goal

pub returns : goal.returns
returns c = λ key other. (successor_next key other, successor_above key other)
