use Rattle.hc_sql_examples.proofs.InsertsComputed.{two_values_for_three_columns_are_refused}
use Rattle.hc_sql_examples.proofs.inserts.two_values_for_three_columns_are_refused.Goals as goal

pub returns : goal.returns
returns c = two_values_for_three_columns_are_refused
