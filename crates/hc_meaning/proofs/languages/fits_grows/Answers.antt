use Rattle.hc_meaning.proofs.Runs.Growing.{grows}
use Rattle.hc_meaning.proofs.languages.fits_grows.Goals as goal

pub returns : goal.returns
returns g c = grows g.T.Speech.language
