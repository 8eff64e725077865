use Rattle.hc_shape.proofs.Leaves.{moves}
use Rattle.hc_shape.proofs.laws.a_cut_moves_keys.Goals as goal

pub returns : goal.returns
returns c = moves
