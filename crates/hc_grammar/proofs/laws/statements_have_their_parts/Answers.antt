use Rattle.hc_grammar.proofs.Statements.Filled.{parts_of}
use Rattle.hc_grammar.proofs.laws.statements_have_their_parts.Goals as goal

pub returns : goal.returns
returns c = parts_of
