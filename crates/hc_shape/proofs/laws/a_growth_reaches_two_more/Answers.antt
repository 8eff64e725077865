use Rattle.hc_shape.proofs.Unreached.{after_growth, growth_reaches}
use Rattle.hc_shape.proofs.laws.a_growth_reaches_two_more.Goals as goal

pub returns : goal.returns
returns c = λ node s first second cut h one other differ.
    let both = growth_reaches node s first second cut h one other differ in
    (both.0, both.1, λ m. after_growth node s first second m cut h)
