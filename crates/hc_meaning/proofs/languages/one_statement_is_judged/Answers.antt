use Rattle.hc_meaning.proofs.Runs.OneStatement.{judged}
use Rattle.hc_meaning.proofs.languages.one_statement_is_judged.Goals as goal

pub returns : goal.returns
returns g c = judged g.T.Speech.language
