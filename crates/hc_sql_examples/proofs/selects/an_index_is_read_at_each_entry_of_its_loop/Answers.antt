use Rattle.hc_sql_examples.proofs.SelectsComputed.{an_index_is_read_at_each_entry_of_its_loop}
use Rattle.hc_sql_examples.proofs.selects.an_index_is_read_at_each_entry_of_its_loop.Goals as goal

pub returns : goal.returns
returns c = an_index_is_read_at_each_entry_of_its_loop
