use Rattle.hc_sql_examples.proofs.DeletesComputed.{an_overflow_deletes_nothing}
use Rattle.hc_sql_examples.proofs.deletes.an_overflow_deletes_nothing.Goals as goal

pub returns : goal.returns
returns c = an_overflow_deletes_nothing
