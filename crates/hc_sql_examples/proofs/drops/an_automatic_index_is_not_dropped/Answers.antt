use Rattle.hc_sql_examples.proofs.DropsComputed.{an_automatic_index_is_not_dropped}
use Rattle.hc_sql_examples.proofs.drops.an_automatic_index_is_not_dropped.Goals as goal

pub returns : goal.returns
returns c = an_automatic_index_is_not_dropped
