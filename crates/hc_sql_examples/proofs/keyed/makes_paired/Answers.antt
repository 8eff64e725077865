use Rattle.hc_sql_examples.proofs.KeyedComputed.{makes_paired}
use Rattle.hc_sql_examples.proofs.keyed.makes_paired.Goals as goal

pub returns : goal.returns
returns c = makes_paired
