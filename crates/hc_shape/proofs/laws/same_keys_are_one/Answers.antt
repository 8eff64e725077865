use Rattle.hc_shape.proofs.Versions.{same_is_one}
use Rattle.hc_shape.proofs.laws.same_keys_are_one.Goals as goal

pub returns : goal.returns
returns c = same_is_one
