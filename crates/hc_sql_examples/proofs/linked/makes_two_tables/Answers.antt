use Rattle.hc_sql_examples.proofs.LinkedComputed.{makes_two_tables}
use Rattle.hc_sql_examples.proofs.linked.makes_two_tables.Goals as goal

pub returns : goal.returns
returns c = makes_two_tables
