use Rattle.hc_shape.proofs.Versions.{unput_of_one}
use Rattle.hc_shape.proofs.laws.an_unput_is_of_one_key.Goals as goal

pub returns : goal.returns
returns c = unput_of_one
