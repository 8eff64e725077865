use Rattle.hc_shape.proofs.Leaves.{own_number}
use Rattle.hc_shape.proofs.laws.a_key_has_its_number.Goals as goal

pub returns : goal.returns
returns c = own_number
