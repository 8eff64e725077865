use Rattle.hc_shape.proofs.Versions.{cut_of_one}
use Rattle.hc_shape.proofs.laws.a_cut_put_is_of_one_key.Goals as goal

pub returns : goal.returns
returns c = cut_of_one
