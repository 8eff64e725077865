use Rattle.hc_meaning.proofs.Runs.Reads.{written_read}
use Rattle.hc_meaning.proofs.languages.writes_are_read.Goals as goal

pub returns : goal.returns
returns g c = λ laws items db key is held. written_read g.T.Speech.language laws db items key is held
