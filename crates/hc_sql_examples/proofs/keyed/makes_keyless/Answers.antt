use Rattle.hc_sql_examples.proofs.KeyedComputed.{makes_keyless}
use Rattle.hc_sql_examples.proofs.keyed.makes_keyless.Goals as goal

pub returns : goal.returns
returns c = makes_keyless
