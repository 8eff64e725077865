use Rattle.hc_sql_examples.proofs.InsertsComputed.{a_text_twice_is_refused}
use Rattle.hc_sql_examples.proofs.inserts.a_text_twice_is_refused.Goals as goal

pub returns : goal.returns
returns c = a_text_twice_is_refused
