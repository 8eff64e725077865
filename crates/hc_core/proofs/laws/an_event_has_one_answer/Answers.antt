use Rattle.hc_core.proofs.OneAnswer.{answers_one}
use Rattle.hc_core.proofs.laws.an_event_has_one_answer.Goals as goal

pub returns : goal.returns
returns c = answers_one
