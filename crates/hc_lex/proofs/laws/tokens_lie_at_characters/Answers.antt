use Rattle.hc_lex.proofs.Boundaries.{tokens_lie_at}
use Rattle.hc_lex.proofs.laws.tokens_lie_at_characters.Goals as goal

pub returns : goal.returns
returns c = tokens_lie_at
