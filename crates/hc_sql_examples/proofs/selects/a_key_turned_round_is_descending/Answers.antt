use Rattle.hc_sql_examples.proofs.SelectsComputed.{a_key_turned_round_is_descending}
use Rattle.hc_sql_examples.proofs.selects.a_key_turned_round_is_descending.Goals as goal

pub returns : goal.returns
returns c = a_key_turned_round_is_descending
