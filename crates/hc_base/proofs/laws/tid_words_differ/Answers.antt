use Rattle.hc_base.proofs.OneWord.{tid_one}
use Rattle.hc_base.proofs.laws.tid_words_differ.Goals as goal

pub returns : goal.returns
returns c = tid_one
