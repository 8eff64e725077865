use Rattle.hc_sql_examples.proofs.IndexedComputed.{makes_with_index}
use Rattle.hc_sql_examples.proofs.indexed.makes_with_index.Goals as goal

pub returns : goal.returns
returns c = makes_with_index
