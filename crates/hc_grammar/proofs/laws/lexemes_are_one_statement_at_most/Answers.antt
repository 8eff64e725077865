use Rattle.hc_grammar.proofs.Faults.Texts.{one_statement}
use Rattle.hc_grammar.proofs.laws.lexemes_are_one_statement_at_most.Goals as goal

pub returns : goal.returns
returns c = one_statement
