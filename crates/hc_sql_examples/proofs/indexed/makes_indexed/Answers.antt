use Rattle.hc_sql_examples.proofs.IndexedComputed.{makes_indexed}
use Rattle.hc_sql_examples.proofs.indexed.makes_indexed.Goals as goal

pub returns : goal.returns
returns c = makes_indexed
