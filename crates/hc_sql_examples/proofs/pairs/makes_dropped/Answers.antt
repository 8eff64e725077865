use Rattle.hc_sql_examples.proofs.PairsComputed.{makes_dropped}
use Rattle.hc_sql_examples.proofs.pairs.makes_dropped.Goals as goal

pub returns : goal.returns
returns c = makes_dropped
