use Rattle.hc_lex.proofs.TokensBetween.{faulty}
use Rattle.hc_lex.proofs.laws.a_fault_after_tokens_is_of_the_text.Goals as goal

pub returns : goal.returns
returns c = faulty
