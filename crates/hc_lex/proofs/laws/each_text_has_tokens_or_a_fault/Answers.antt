use Rattle.hc_lex.proofs.EachText.{each_text}
use Rattle.hc_lex.proofs.laws.each_text_has_tokens_or_a_fault.Goals as goal

pub returns : goal.returns
returns c = each_text
