use Rattle.hc_shape.proofs.Halves.{one_cut}
use Rattle.hc_shape.proofs.laws.there_is_one_cut.Goals as goal

pub returns : goal.returns
returns c = one_cut
