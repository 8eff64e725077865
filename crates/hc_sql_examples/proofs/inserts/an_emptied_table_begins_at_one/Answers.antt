use Rattle.hc_sql_examples.proofs.InsertsComputed.{an_emptied_table_begins_at_one}
use Rattle.hc_sql_examples.proofs.inserts.an_emptied_table_begins_at_one.Goals as goal

pub returns : goal.returns
returns c = an_emptied_table_begins_at_one
