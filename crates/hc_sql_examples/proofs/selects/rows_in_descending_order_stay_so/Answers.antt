use Rattle.hc_sql_examples.proofs.SelectsComputed.{rows_in_descending_order_stay_so}
use Rattle.hc_sql_examples.proofs.selects.rows_in_descending_order_stay_so.Goals as goal

pub returns : goal.returns
returns c = rows_in_descending_order_stay_so
