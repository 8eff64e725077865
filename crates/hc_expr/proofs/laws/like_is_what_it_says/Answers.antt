use Rattle.hc_expr.proofs.Sayings.{says, is_said}
use Rattle.hc_expr.proofs.laws.like_is_what_it_says.Goals as goal

pub returns : goal.returns
returns c = λ pattern text. (says pattern text, is_said pattern text)
