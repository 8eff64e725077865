use Rattle.hc_sql_examples.proofs.IndexedComputed.{makes_unindexed}
use Rattle.hc_sql_examples.proofs.indexed.makes_unindexed.Goals as goal

pub returns : goal.returns
returns c = makes_unindexed
