use Rattle.hc_sql_examples.proofs.InsertsComputed.{a_repeat_comes_before_a_later_overflow}
use Rattle.hc_sql_examples.proofs.inserts.a_repeat_comes_before_a_later_overflow.Goals as goal

pub returns : goal.returns
returns c = a_repeat_comes_before_a_later_overflow
