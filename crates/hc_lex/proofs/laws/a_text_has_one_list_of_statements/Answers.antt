use Rattle.hc_lex.proofs.OneReading.{statements_are_one}
use Rattle.hc_lex.proofs.laws.a_text_has_one_list_of_statements.Goals as goal

pub returns : goal.returns
returns c = statements_are_one
