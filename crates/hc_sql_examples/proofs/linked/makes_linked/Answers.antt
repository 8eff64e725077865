use Rattle.hc_sql_examples.proofs.LinkedComputed.{makes_linked}
use Rattle.hc_sql_examples.proofs.linked.makes_linked.Goals as goal

pub returns : goal.returns
returns c = makes_linked
