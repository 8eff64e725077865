use Rattle.hc_shape.proofs.Walks.{straight}
use Rattle.hc_shape.proofs.laws.a_descent_goes_straight.Goals as goal

pub returns : goal.returns
returns c = λ node s k n key e m h all on_n inside in_n is_e from last. straight node s h k n key e m on_n inside in_n is_e last all from
