use Rattle.hc_shape.proofs.Walks.{one_parent}
use Rattle.hc_shape.proofs.laws.children_differ.Goals as goal

pub returns : goal.returns
returns c = λ node s k n i e f m h on_n on_i in_n in_i is_e is_f. one_parent node s h k n i e f m on_n on_i in_n in_i is_e is_f
