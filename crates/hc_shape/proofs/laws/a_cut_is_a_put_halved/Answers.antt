use Rattle.hc_shape.proofs.Plans.{put_halved}
use Rattle.hc_shape.proofs.laws.a_cut_is_a_put_halved.Goals as goal

pub returns : goal.returns
returns c = put_halved
