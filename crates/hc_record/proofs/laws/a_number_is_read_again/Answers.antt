use Rattle.hc_record.proofs.Numbers.{number_again}
use Rattle.hc_record.proofs.laws.a_number_is_read_again.Goals as goal

pub returns : goal.returns
returns c = number_again
