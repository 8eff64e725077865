use Rattle.hc_sql_examples.proofs.KeyedComputed.{makes_unpaired}
use Rattle.hc_sql_examples.proofs.keyed.makes_unpaired.Goals as goal

pub returns : goal.returns
returns c = makes_unpaired
