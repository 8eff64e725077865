use Rattle.hc_shape.proofs.Walks.{first_two}
use Rattle.hc_shape.proofs.laws.the_first_two.Goals as goal

pub returns : goal.returns
returns c = λ node s h. first_two node s h
