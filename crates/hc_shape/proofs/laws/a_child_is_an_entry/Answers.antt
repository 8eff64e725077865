use Rattle.hc_shape.proofs.Walks.{child_entry}
use Rattle.hc_shape.proofs.laws.a_child_is_an_entry.Goals as goal

pub returns : goal.returns
returns c = λ node s k key child h is. child_entry node s h k key child is
