use Rattle.hc_sql_examples.proofs.DropsComputed.{a_missing_index_is_refused}
use Rattle.hc_sql_examples.proofs.drops.a_missing_index_is_refused.Goals as goal

pub returns : goal.returns
returns c = a_missing_index_is_refused
