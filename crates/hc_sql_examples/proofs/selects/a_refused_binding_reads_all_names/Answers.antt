use Rattle.hc_sql_examples.proofs.SelectsComputed.{a_refused_binding_reads_all_names}
use Rattle.hc_sql_examples.proofs.selects.a_refused_binding_reads_all_names.Goals as goal

pub returns : goal.returns
returns c = a_refused_binding_reads_all_names
