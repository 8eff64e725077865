use Rattle.hc_sql_examples.proofs.LinkedComputed.{makes_half_linked}
use Rattle.hc_sql_examples.proofs.linked.makes_half_linked.Goals as goal

pub returns : goal.returns
returns c = makes_half_linked
