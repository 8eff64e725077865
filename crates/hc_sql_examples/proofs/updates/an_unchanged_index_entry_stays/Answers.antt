use Rattle.hc_sql_examples.proofs.UpdatesComputed.{an_unchanged_index_entry_stays}
use Rattle.hc_sql_examples.proofs.updates.an_unchanged_index_entry_stays.Goals as goal

pub returns : goal.returns
returns c = an_unchanged_index_entry_stays
