use Rattle.hc_base.proofs.OneWord.{map_one}
use Rattle.hc_base.proofs.laws.map_words_differ.Goals as goal

pub returns : goal.returns
returns c = map_one
