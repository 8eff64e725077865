use Rattle.hc_grammar.proofs.Again.Whole.{read_again}
use Rattle.hc_grammar.proofs.laws.canonical_text_is_read_again.Goals as goal

pub returns : goal.returns
returns c = read_again
