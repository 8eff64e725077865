use Rattle.hc_sql_examples.proofs.SelectsComputed.{aggregates_over_no_row_are_one_group}
use Rattle.hc_sql_examples.proofs.selects.aggregates_over_no_row_are_one_group.Goals as goal

pub returns : goal.returns
returns c = aggregates_over_no_row_are_one_group
