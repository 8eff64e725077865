use Rattle.hc_core.proofs.Answered.{answer_there}
use Rattle.hc_core.proofs.laws.an_event_has_an_answer.Goals as goal

pub returns : goal.returns
returns c = answer_there
