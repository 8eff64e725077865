use Rattle.hc_meaning.proofs.Runs.Alike.{agreement_carries}
use Rattle.hc_meaning.proofs.languages.agreement_carries.Goals as goal

pub returns : goal.returns
returns g c = agreement_carries g.T.Speech.language
