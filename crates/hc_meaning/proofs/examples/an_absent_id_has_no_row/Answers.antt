use Rattle.hc_meaning.proofs.Worked.{an_absent_id_has_no_row}
use Rattle.hc_meaning.proofs.examples.an_absent_id_has_no_row.Goals as goal

pub returns : goal.returns
returns c = an_absent_id_has_no_row
