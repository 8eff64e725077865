use Rattle.hc_sql_examples.proofs.UpdatesComputed.{an_overflow_in_set_changes_nothing}
use Rattle.hc_sql_examples.proofs.updates.an_overflow_in_set_changes_nothing.Goals as goal

pub returns : goal.returns
returns c = an_overflow_in_set_changes_nothing
