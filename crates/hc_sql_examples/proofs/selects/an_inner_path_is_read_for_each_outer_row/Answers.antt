use Rattle.hc_sql_examples.proofs.SelectsComputed.{an_inner_path_is_read_for_each_outer_row}
use Rattle.hc_sql_examples.proofs.selects.an_inner_path_is_read_for_each_outer_row.Goals as goal

pub returns : goal.returns
returns c = an_inner_path_is_read_for_each_outer_row
