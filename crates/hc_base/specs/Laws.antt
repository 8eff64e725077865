-- What follows from the definitions alone.
use Rattle.std.specs.Prelude.{◌≡◌}
use Rattle.hc_base.specs.declared.map_word.MapWord.{MapWord}
use Rattle.hc_base.specs.declared.page_word.PageWord.{PageWord}
use Rattle.hc_base.specs.declared.seat_word.SeatWord.{SeatWord}
use Rattle.hc_base.specs.declared.tid_word.TidWord.{TidWord}
use Rattle.hc_base.specs.Words.{IsMapWord, map_word, IsPageWord, page_word, IsSeatWord, seat_word, IsTidWord, tid_word}

-- two forms do not have one word
abbrev pub MapWordsDiffer : Type 0
MapWordsDiffer = (a b : MapWord) → IsMapWord a → IsMapWord b → map_word a ≡ map_word b → a ≡ b

abbrev pub PageWordsDiffer : Type 0
PageWordsDiffer = (a b : PageWord) → IsPageWord a → IsPageWord b → page_word a ≡ page_word b → a ≡ b

abbrev pub SeatWordsDiffer : Type 0
SeatWordsDiffer = (a b : SeatWord) → IsSeatWord a → IsSeatWord b → seat_word a ≡ seat_word b → a ≡ b

abbrev pub TidWordsDiffer : Type 0
TidWordsDiffer = (a b : TidWord) → IsTidWord a → IsTidWord b → tid_word a ≡ tid_word b → a ≡ b
