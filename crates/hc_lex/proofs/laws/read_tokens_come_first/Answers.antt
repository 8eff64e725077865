use Rattle.hc_lex.proofs.TokensBetween.{read_first}
use Rattle.hc_lex.proofs.laws.read_tokens_come_first.Goals as goal

pub returns : goal.returns
returns c = read_first
