use Rattle.hc_sql_examples.proofs.InsertsComputed.{a_column_of_the_primary_key_refuses_null}
use Rattle.hc_sql_examples.proofs.inserts.a_column_of_the_primary_key_refuses_null.Goals as goal

pub returns : goal.returns
returns c = a_column_of_the_primary_key_refuses_null
