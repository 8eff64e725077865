use Rattle.hc_sql_examples.proofs.PairsComputed.{makes_emptied}
use Rattle.hc_sql_examples.proofs.pairs.makes_emptied.Goals as goal

pub returns : goal.returns
returns c = makes_emptied
