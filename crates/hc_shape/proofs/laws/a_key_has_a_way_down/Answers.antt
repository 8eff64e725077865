use Rattle.hc_shape.proofs.Walks.{entry_for}
use Rattle.hc_shape.proofs.laws.a_key_has_a_way_down.Goals as goal

pub returns : goal.returns
returns c = λ node s k n key h there from. entry_for node s h k n key there from
