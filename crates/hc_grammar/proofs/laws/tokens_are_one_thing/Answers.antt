use Rattle.hc_grammar.proofs.Faults.Texts.{tokens_are_one_thing}
use Rattle.hc_grammar.proofs.laws.tokens_are_one_thing.Goals as goal

pub returns : goal.returns
returns c = tokens_are_one_thing
