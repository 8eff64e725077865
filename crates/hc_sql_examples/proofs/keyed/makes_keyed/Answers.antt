use Rattle.hc_sql_examples.proofs.KeyedComputed.{makes_keyed}
use Rattle.hc_sql_examples.proofs.keyed.makes_keyed.Goals as goal

pub returns : goal.returns
returns c = makes_keyed
