use Rattle.hc_sql_examples.proofs.CreatesComputed.{no_tree_number_follows_the_last}
use Rattle.hc_sql_examples.proofs.creates.no_tree_number_follows_the_last.Goals as goal

pub returns : goal.returns
returns c = no_tree_number_follows_the_last
