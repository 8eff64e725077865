use Rattle.hc_shape.proofs.Versions.{put_of_one}
use Rattle.hc_shape.proofs.laws.a_put_is_of_one_key.Goals as goal

pub returns : goal.returns
returns c = put_of_one
