use Rattle.hc_lex.proofs.OneReading.{tokens_or_fault}
use Rattle.hc_lex.proofs.laws.a_faulty_text_has_no_tokens.Goals as goal

pub returns : goal.returns
returns c = tokens_or_fault
