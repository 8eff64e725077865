use Rattle.hc_sql_examples.proofs.InsertsComputed.{nulls_are_different_in_a_unique_index}
use Rattle.hc_sql_examples.proofs.inserts.nulls_are_different_in_a_unique_index.Goals as goal

pub returns : goal.returns
returns c = nulls_are_different_in_a_unique_index
