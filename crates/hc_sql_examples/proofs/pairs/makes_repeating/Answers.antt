use Rattle.hc_sql_examples.proofs.PairsComputed.{makes_repeating}
use Rattle.hc_sql_examples.proofs.pairs.makes_repeating.Goals as goal

pub returns : goal.returns
returns c = makes_repeating
