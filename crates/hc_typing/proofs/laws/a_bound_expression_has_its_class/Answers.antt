use Rattle.hc_typing.proofs.Classes.{has_class}
use Rattle.hc_typing.proofs.laws.a_bound_expression_has_its_class.Goals as goal

pub returns : goal.returns
returns c = λ scope e t row is fits. has_class scope row fits e t is
