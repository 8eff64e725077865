use Rattle.hc_sql_examples.proofs.UpdatesComputed.{a_text_is_moved_in_its_unique_index}
use Rattle.hc_sql_examples.proofs.updates.a_text_is_moved_in_its_unique_index.Goals as goal

pub returns : goal.returns
returns c = a_text_is_moved_in_its_unique_index
