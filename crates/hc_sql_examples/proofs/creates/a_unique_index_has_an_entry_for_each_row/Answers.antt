use Rattle.hc_sql_examples.proofs.CreatesComputed.{a_unique_index_has_an_entry_for_each_row}
use Rattle.hc_sql_examples.proofs.creates.a_unique_index_has_an_entry_for_each_row.Goals as goal

pub returns : goal.returns
returns c = a_unique_index_has_an_entry_for_each_row
