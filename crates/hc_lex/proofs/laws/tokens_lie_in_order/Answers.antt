use Rattle.hc_lex.proofs.PlaceLemmas.{tokens_ascend}
use Rattle.hc_lex.proofs.laws.tokens_lie_in_order.Goals as goal

pub returns : goal.returns
returns c = tokens_ascend
