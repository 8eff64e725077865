use Rattle.hc_shape.proofs.HalfContents.{contents}
use Rattle.hc_shape.proofs.laws.halves_are_contents.Goals as goal

pub returns : goal.returns
returns c = contents
