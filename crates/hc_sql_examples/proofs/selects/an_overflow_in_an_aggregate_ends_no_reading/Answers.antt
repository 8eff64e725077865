use Rattle.hc_sql_examples.proofs.SelectsComputed.{an_overflow_in_an_aggregate_ends_no_reading}
use Rattle.hc_sql_examples.proofs.selects.an_overflow_in_an_aggregate_ends_no_reading.Goals as goal

pub returns : goal.returns
returns c = an_overflow_in_an_aggregate_ends_no_reading
