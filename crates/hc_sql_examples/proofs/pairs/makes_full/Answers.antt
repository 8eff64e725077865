use Rattle.hc_sql_examples.proofs.PairsComputed.{makes_full}
use Rattle.hc_sql_examples.proofs.pairs.makes_full.Goals as goal

pub returns : goal.returns
returns c = makes_full
