use Rattle.hc_base.proofs.OneWord.{seat_one}
use Rattle.hc_base.proofs.laws.seat_words_differ.Goals as goal

pub returns : goal.returns
returns c = seat_one
