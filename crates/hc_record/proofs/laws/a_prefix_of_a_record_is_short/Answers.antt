use Rattle.hc_record.proofs.Cuts.{prefix_is_short}
use Rattle.hc_record.proofs.laws.a_prefix_of_a_record_is_short.Goals as goal

pub returns : goal.returns
returns c = prefix_is_short
