use Rattle.hc_sql_examples.proofs.CreatesComputed.{a_long_name_is_too_big_for_its_cell}
use Rattle.hc_sql_examples.proofs.creates.a_long_name_is_too_big_for_its_cell.Goals as goal

pub returns : goal.returns
returns c = a_long_name_is_too_big_for_its_cell
