use Rattle.hc_meaning.proofs.Worked.{a_row_is_read_back}
use Rattle.hc_meaning.proofs.examples.a_row_is_read_back.Goals as goal

pub returns : goal.returns
returns c = a_row_is_read_back
