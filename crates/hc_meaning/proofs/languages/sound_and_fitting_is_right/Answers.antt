use Rattle.hc_meaning.proofs.Runs.Right.{sound_and_fitting}
use Rattle.hc_meaning.proofs.languages.sound_and_fitting_is_right.Goals as goal

pub returns : goal.returns
returns g c = sound_and_fitting g.T.Speech.language
