use Rattle.hc_sql_examples.proofs.SelectsComputed.{an_empty_outer_table_reads_no_inner_one}
use Rattle.hc_sql_examples.proofs.selects.an_empty_outer_table_reads_no_inner_one.Goals as goal

pub returns : goal.returns
returns c = an_empty_outer_table_reads_no_inner_one
