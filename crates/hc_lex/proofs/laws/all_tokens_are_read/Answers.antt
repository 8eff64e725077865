use Rattle.hc_lex.proofs.TokensBetween.{whole_is_read}
use Rattle.hc_lex.proofs.laws.all_tokens_are_read.Goals as goal

pub returns : goal.returns
returns c = whole_is_read
