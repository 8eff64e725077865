use Rattle.hc_sql_examples.proofs.PairsComputed.{makes_bare}
use Rattle.hc_sql_examples.proofs.pairs.makes_bare.Goals as goal

pub returns : goal.returns
returns c = makes_bare
