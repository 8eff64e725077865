use Rattle.hc_meaning.proofs.Worked.{a_taken_id_is_refused}
use Rattle.hc_meaning.proofs.examples.a_taken_id_is_refused.Goals as goal

pub returns : goal.returns
returns c = a_taken_id_is_refused
