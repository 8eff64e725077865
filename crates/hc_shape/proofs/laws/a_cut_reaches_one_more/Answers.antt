use Rattle.hc_shape.proofs.Unreached.{after_cut, cut_reaches}
use Rattle.hc_shape.proofs.laws.a_cut_reaches_one_more.Goals as goal

pub returns : goal.returns
returns c = λ s k at new cut there. (cut_reaches s k at new cut there, λ m. after_cut s k at new m cut)
