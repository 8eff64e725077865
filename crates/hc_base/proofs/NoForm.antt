-- A word that has no parts is no form's.
use Rattle.std.proofs.Common.{ℕ, ◌≡◌, ◌≢◌, ◌<◌, ◌^◌, arith}
use Rattle.hc_base.specs.declared.map_word.MapWord.{MapWord}
use Rattle.hc_base.specs.declared.map_word.MapWord.TheVariants as map
use Rattle.hc_base.specs.declared.page_word.PageWord.{PageWord}
use Rattle.hc_base.specs.declared.page_word.PageWord.TheVariants as page
use Rattle.hc_base.specs.declared.seat_word.SeatWord.{SeatWord}
use Rattle.hc_base.specs.declared.seat_word.SeatWord.TheVariants as seat
use Rattle.hc_base.specs.Words.{IsMapWord, map_word, IsPageWord, page_word, IsSeatWord, seat_word, HasNoParts}

pub map_none : {word : ℕ} → HasNoParts word → (form : MapWord) → IsMapWord form → map_word form ≢ word
map_none none map.Free fits = none 0 0 0 (omega arith) (omega arith) (omega arith)
map_none none (map.Claimed at next) fits = none 1 at next (omega arith) (omega (arith, fits)) (omega (arith, fits))
map_none none (map.Page p) fits = none 2 0 p.0 (omega arith) (omega arith) (omega (arith, fits))
map_none none (map.Evicted left) fits = none 3 0 left.0 (omega arith) (omega arith) (omega (arith, fits))

pub page_none : {word : ℕ} → HasNoParts word → (form : PageWord) → IsPageWord form → page_word form ≢ word
page_none none page.Free fits = none 0 0 0 (omega arith) (omega arith) (omega arith)
page_none none (page.Owned at next) fits = none 1 at next (omega arith) (omega (arith, fits)) (omega (arith, fits))
page_none none (page.Mapped number) fits = none 2 0 number.0 (omega arith) (omega arith) (omega (arith, fits))
page_none none (page.Pending at next) fits = none 3 at next (omega arith) (omega (arith, fits)) (omega (arith, fits))
page_none none (page.Limbo stamp) fits = none 4 0 stamp.0 (omega arith) (omega arith) (omega (arith, fits))

pub seat_none : {word : ℕ} → HasNoParts word → (form : SeatWord) → IsSeatWord form → seat_word form ≢ word
seat_none none seat.Idle fits = none 0 0 0 (omega arith) (omega arith) (omega arith)
seat_none none seat.Starting fits = none 1 0 0 (omega arith) (omega arith) (omega arith)
seat_none none (seat.Snapshot snapshot) fits = none 2 0 snapshot.0 (omega arith) (omega arith) (omega (arith, fits))
