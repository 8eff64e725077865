use Rattle.hc_shape.proofs.Halves.{halves_fit}
use Rattle.hc_shape.proofs.laws.the_halves_fit.Goals as goal

pub returns : goal.returns
returns c = halves_fit
