use Rattle.hc_sql_examples.proofs.UpdatesComputed.{a_rowid_is_not_set_to_null}
use Rattle.hc_sql_examples.proofs.updates.a_rowid_is_not_set_to_null.Goals as goal

pub returns : goal.returns
returns c = a_rowid_is_not_set_to_null
