use Rattle.hc_record.proofs.Records.{record_again}
use Rattle.hc_record.proofs.laws.a_record_is_read_again.Goals as goal

pub returns : goal.returns
returns c = record_again
