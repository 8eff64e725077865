use Rattle.hc_typing.proofs.GroupClasses.{has_class_on_groups}
use Rattle.hc_typing.proofs.laws.an_expression_on_groups_has_its_class.Goals as goal

pub returns : goal.returns
returns c = λ scope g e t row is fits. has_class_on_groups scope g row fits e t is
