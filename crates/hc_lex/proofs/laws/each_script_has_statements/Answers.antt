use Rattle.hc_lex.proofs.EachText.{each_script}
use Rattle.hc_lex.proofs.laws.each_script_has_statements.Goals as goal

pub returns : goal.returns
returns c = each_script
