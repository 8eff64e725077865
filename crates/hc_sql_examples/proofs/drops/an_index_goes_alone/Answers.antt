use Rattle.hc_sql_examples.proofs.DropsComputed.{an_index_goes_alone}
use Rattle.hc_sql_examples.proofs.drops.an_index_goes_alone.Goals as goal

pub returns : goal.returns
returns c = an_index_goes_alone
