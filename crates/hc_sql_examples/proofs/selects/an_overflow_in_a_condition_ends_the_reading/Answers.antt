use Rattle.hc_sql_examples.proofs.SelectsComputed.{an_overflow_in_a_condition_ends_the_reading}
use Rattle.hc_sql_examples.proofs.selects.an_overflow_in_a_condition_ends_the_reading.Goals as goal

pub returns : goal.returns
returns c = an_overflow_in_a_condition_ends_the_reading
