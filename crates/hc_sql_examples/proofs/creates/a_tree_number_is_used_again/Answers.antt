use Rattle.hc_sql_examples.proofs.CreatesComputed.{a_tree_number_is_used_again}
use Rattle.hc_sql_examples.proofs.creates.a_tree_number_is_used_again.Goals as goal

pub returns : goal.returns
returns c = a_tree_number_is_used_again
