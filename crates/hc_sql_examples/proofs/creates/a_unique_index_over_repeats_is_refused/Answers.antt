use Rattle.hc_sql_examples.proofs.CreatesComputed.{a_unique_index_over_repeats_is_refused}
use Rattle.hc_sql_examples.proofs.creates.a_unique_index_over_repeats_is_refused.Goals as goal

pub returns : goal.returns
returns c = a_unique_index_over_repeats_is_refused
