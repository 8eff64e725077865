use Rattle.hc_lex.proofs.PlaceLemmas.{statements_ascend}
use Rattle.hc_lex.proofs.laws.statements_lie_in_order.Goals as goal

pub returns : goal.returns
returns c = statements_ascend
