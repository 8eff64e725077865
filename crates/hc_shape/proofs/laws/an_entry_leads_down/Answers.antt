use Rattle.hc_shape.proofs.Walks.{entry_leads}
use Rattle.hc_shape.proofs.laws.an_entry_leads_down.Goals as goal

pub returns : goal.returns
returns c = λ node s k n e h there on. entry_leads node s h k n e there on
