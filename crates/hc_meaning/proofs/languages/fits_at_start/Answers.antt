use Rattle.hc_meaning.proofs.Runs.Growing.{at_start}
use Rattle.hc_meaning.proofs.languages.fits_at_start.Goals as goal

pub returns : goal.returns
returns g c = at_start g.T.Speech.language
