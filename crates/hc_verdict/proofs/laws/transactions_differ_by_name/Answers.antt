use Rattle.hc_verdict.proofs.Names.{differ_by_name}
use Rattle.hc_verdict.proofs.laws.transactions_differ_by_name.Goals as goal

pub returns : goal.returns
returns c = differ_by_name
