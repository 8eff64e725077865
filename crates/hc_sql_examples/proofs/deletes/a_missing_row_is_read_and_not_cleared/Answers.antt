use Rattle.hc_sql_examples.proofs.DeletesComputed.{a_missing_row_is_read_and_not_cleared}
use Rattle.hc_sql_examples.proofs.deletes.a_missing_row_is_read_and_not_cleared.Goals as goal

pub returns : goal.returns
returns c = a_missing_row_is_read_and_not_cleared
