use Rattle.hc_shape.proofs.Fences.{number_within, within_number}
use Rattle.hc_shape.proofs.laws.fences_part_keys.Goals as goal

pub returns : goal.returns
returns c = λ node s k key h within. ((within_number node s h k within key).0, (within_number node s h k within key).1, λ n there inside. number_within node s h k n key there inside)
