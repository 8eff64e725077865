use Rattle.hc_sql_examples.proofs.SelectsComputed.{aggregates_need_no_table}
use Rattle.hc_sql_examples.proofs.selects.aggregates_need_no_table.Goals as goal

pub returns : goal.returns
returns c = aggregates_need_no_table
