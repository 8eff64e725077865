use Rattle.hc_lex.proofs.OneReading.{tokens_are_one}
use Rattle.hc_lex.proofs.laws.a_text_has_one_list_of_tokens.Goals as goal

pub returns : goal.returns
returns c = tokens_are_one
