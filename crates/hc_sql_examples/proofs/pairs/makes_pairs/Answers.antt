use Rattle.hc_sql_examples.proofs.PairsComputed.{makes_pairs}
use Rattle.hc_sql_examples.proofs.pairs.makes_pairs.Goals as goal

pub returns : goal.returns
returns c = makes_pairs
