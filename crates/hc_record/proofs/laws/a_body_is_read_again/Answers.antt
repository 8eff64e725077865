use Rattle.hc_record.proofs.Records.{value_again}
use Rattle.hc_record.proofs.laws.a_body_is_read_again.Goals as goal

pub returns : goal.returns
returns c = value_again
