-- A word, and those of the key.
use Rattle.std.proofs.Common.{arith}
use Rattle.hc_base.proofs.Places.{words_of-length}
use Rattle.hc_split.proofs.joined.child_size.Goals as goal

pub returns : goal.returns
returns c = λ child. omega (arith, words_of-length c.args.key.now)
