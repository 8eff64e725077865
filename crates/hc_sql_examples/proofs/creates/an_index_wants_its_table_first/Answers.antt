use Rattle.hc_sql_examples.proofs.CreatesComputed.{an_index_wants_its_table_first}
use Rattle.hc_sql_examples.proofs.creates.an_index_wants_its_table_first.Goals as goal

pub returns : goal.returns
returns c = an_index_wants_its_table_first
