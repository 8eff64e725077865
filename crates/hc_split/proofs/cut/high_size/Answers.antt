-- The words of its bytes.
use Rattle.std.proofs.Common.{length, ap, arith}
use Rattle.hc_base.proofs.Places.{words_of-length}
use Rattle.hc_split.proofs.cut.high_size.Goals as goal

pub returns-in-Some : goal.returns-in-Some
returns-in-Some c = rw c.in-Some.is (omega (arith, words_of-length c.in-Some.high, c.size.ensures.size, ap (λ k. length k) c.as_slice.ensures.bytes))
