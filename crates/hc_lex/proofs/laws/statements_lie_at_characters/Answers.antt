use Rattle.hc_lex.proofs.Boundaries.{statements_lie_at}
use Rattle.hc_lex.proofs.laws.statements_lie_at_characters.Goals as goal

pub returns : goal.returns
returns c = statements_lie_at
