use Rattle.hc_judge.proofs.Found.{right_run_has}
use Rattle.hc_judge.proofs.laws.a_right_run_has_transactions.Goals as goal

pub returns : goal.returns
returns g c = right_run_has g.T.Speech.language
