use Rattle.hc_range.proofs.Unique.{normal_form_unique}
use Rattle.hc_range.proofs.laws.a_normal_form_is_unique.Goals as goal

pub returns : goal.returns
returns c = normal_form_unique
