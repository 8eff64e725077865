use Rattle.hc_sql_examples.proofs.UpdatesComputed.{a_new_rowid_moves_the_index_entry}
use Rattle.hc_sql_examples.proofs.updates.a_new_rowid_moves_the_index_entry.Goals as goal

pub returns : goal.returns
returns c = a_new_rowid_moves_the_index_entry
