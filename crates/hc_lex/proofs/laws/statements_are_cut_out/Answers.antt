use Rattle.hc_lex.proofs.StatementTokens.{statements_are_cut_out}
use Rattle.hc_lex.proofs.laws.statements_are_cut_out.Goals as goal

pub returns : goal.returns
returns c = statements_are_cut_out
