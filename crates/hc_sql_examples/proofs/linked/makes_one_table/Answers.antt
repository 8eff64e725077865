use Rattle.hc_sql_examples.proofs.LinkedComputed.{makes_one_table}
use Rattle.hc_sql_examples.proofs.linked.makes_one_table.Goals as goal

pub returns : goal.returns
returns c = makes_one_table
