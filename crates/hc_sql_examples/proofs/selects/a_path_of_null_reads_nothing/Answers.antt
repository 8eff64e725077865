use Rattle.hc_sql_examples.proofs.SelectsComputed.{a_path_of_null_reads_nothing}
use Rattle.hc_sql_examples.proofs.selects.a_path_of_null_reads_nothing.Goals as goal

pub returns : goal.returns
returns c = a_path_of_null_reads_nothing
