use Rattle.hc_sql_examples.proofs.SelectsComputed.{no_row_makes_no_group}
use Rattle.hc_sql_examples.proofs.selects.no_row_makes_no_group.Goals as goal

pub returns : goal.returns
returns c = no_row_makes_no_group
