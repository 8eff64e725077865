use Rattle.hc_shape.proofs.Walks.{right_leads}
use Rattle.hc_shape.proofs.laws.a_link_leads_right.Goals as goal

pub returns : goal.returns
returns c = λ node s k n m h there is. right_leads node s h k n m there is
