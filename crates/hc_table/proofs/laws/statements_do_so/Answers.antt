use Rattle.hc_table.proofs.Worked.{they_do}
use Rattle.hc_table.proofs.laws.statements_do_so.Goals as goal

pub returns : goal.returns
returns c = they_do
