use Rattle.hc_sql_examples.proofs.InsertsComputed.{a_primary_key_comes_before_unique_columns}
use Rattle.hc_sql_examples.proofs.inserts.a_primary_key_comes_before_unique_columns.Goals as goal

pub returns : goal.returns
returns c = a_primary_key_comes_before_unique_columns
