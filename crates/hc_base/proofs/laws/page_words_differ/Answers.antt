use Rattle.hc_base.proofs.OneWord.{page_one}
use Rattle.hc_base.proofs.laws.page_words_differ.Goals as goal

pub returns : goal.returns
returns c = page_one
