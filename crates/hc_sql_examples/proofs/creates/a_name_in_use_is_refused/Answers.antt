use Rattle.hc_sql_examples.proofs.CreatesComputed.{a_name_in_use_is_refused}
use Rattle.hc_sql_examples.proofs.creates.a_name_in_use_is_refused.Goals as goal

pub returns : goal.returns
returns c = a_name_in_use_is_refused
