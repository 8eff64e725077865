use Rattle.hc_lex.proofs.TokensBetween.{joined}
use Rattle.hc_lex.proofs.laws.tokens_are_joined.Goals as goal

pub returns : goal.returns
returns c = joined
