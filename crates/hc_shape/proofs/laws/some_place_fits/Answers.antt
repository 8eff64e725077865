use Rattle.hc_shape.proofs.Halves.{some_place}
use Rattle.hc_shape.proofs.laws.some_place_fits.Goals as goal

pub returns : goal.returns
returns c = some_place
