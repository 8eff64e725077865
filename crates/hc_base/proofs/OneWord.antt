-- Each form has a word of its own.
use Rattle.std.proofs.Common.{◌≡◌, refl, arith}
use Rattle.hc_base.specs.declared.map_word.MapWord.{MapWord}
use Rattle.hc_base.specs.declared.map_word.MapWord.TheVariants as map
use Rattle.hc_base.specs.declared.page_word.PageWord.{PageWord}
use Rattle.hc_base.specs.declared.page_word.PageWord.TheVariants as page
use Rattle.hc_base.specs.declared.seat_word.SeatWord.{SeatWord}
use Rattle.hc_base.specs.declared.seat_word.SeatWord.TheVariants as seat
use Rattle.hc_base.specs.declared.tid_word.TidWord.{TidWord}
use Rattle.hc_base.specs.declared.tid_word.TidWord.TheVariants as tid
use Rattle.hc_base.specs.Words.{IsMapWord, map_word, IsPageWord, page_word, IsSeatWord, seat_word, IsTidWord, tid_word}

pub map_one : (a b : MapWord) → IsMapWord a → IsMapWord b → map_word a ≡ map_word b → a ≡ b
map_one map.Free map.Free of_a of_b same = refl
map_one (map.Claimed s n) (map.Claimed t m) of_a of_b same =
    let at : s ≡ t = omega (arith, of_a, of_b, same) in let next : n ≡ m = omega (arith, of_a, of_b, same) in λ i. map.Claimed (at i) (next i)
map_one (map.Page p) (map.Page q) of_a of_b same = let e : p.0 ≡ q.0 = omega (arith, of_a, of_b, same) in λ i. map.Page (record { 0 = e i })
map_one (map.Evicted p) (map.Evicted q) of_a of_b same = let e : p.0 ≡ q.0 = omega (arith, of_a, of_b, same) in λ i. map.Evicted (record { 0 = e i })
map_one a b of_a of_b same = absurd (omega (arith, of_a, of_b, same))

pub page_one : (a b : PageWord) → IsPageWord a → IsPageWord b → page_word a ≡ page_word b → a ≡ b
page_one page.Free page.Free of_a of_b same = refl
page_one (page.Owned s n) (page.Owned t m) of_a of_b same =
    let at : s ≡ t = omega (arith, of_a, of_b, same) in let next : n ≡ m = omega (arith, of_a, of_b, same) in λ i. page.Owned (at i) (next i)
page_one (page.Mapped p) (page.Mapped q) of_a of_b same = let e : p.0 ≡ q.0 = omega (arith, of_a, of_b, same) in λ i. page.Mapped (record { 0 = e i })
page_one (page.Pending s n) (page.Pending t m) of_a of_b same =
    let at : s ≡ t = omega (arith, of_a, of_b, same) in let next : n ≡ m = omega (arith, of_a, of_b, same) in λ i. page.Pending (at i) (next i)
page_one (page.Limbo p) (page.Limbo q) of_a of_b same = let e : p.0 ≡ q.0 = omega (arith, of_a, of_b, same) in λ i. page.Limbo (record { 0 = e i })
page_one a b of_a of_b same = absurd (omega (arith, of_a, of_b, same))

pub seat_one : (a b : SeatWord) → IsSeatWord a → IsSeatWord b → seat_word a ≡ seat_word b → a ≡ b
seat_one seat.Idle seat.Idle of_a of_b same = refl
seat_one seat.Starting seat.Starting of_a of_b same = refl
seat_one (seat.Snapshot p) (seat.Snapshot q) of_a of_b same = let e : p.0 ≡ q.0 = omega (arith, of_a, of_b, same) in λ i. seat.Snapshot (record { 0 = e i })
seat_one a b of_a of_b same = absurd (omega (arith, of_a, of_b, same))

pub tid_one : (a b : TidWord) → IsTidWord a → IsTidWord b → tid_word a ≡ tid_word b → a ≡ b
tid_one tid.Empty tid.Empty of_a of_b same = refl
tid_one (tid.Live s n) (tid.Live t m) of_a of_b same =
    let conn : s ≡ t = omega (arith, of_a, of_b, same) in let ord : n ≡ m = omega (arith, of_a, of_b, same) in λ i. tid.Live (conn i) (ord i)
tid_one (tid.Validating s n p) (tid.Validating t m q) of_a of_b same =
    let conn : s ≡ t = omega (arith, of_a, of_b, same) in
    let ord : n ≡ m = omega (arith, of_a, of_b, same) in
    let c : p.0 ≡ q.0 = omega (arith, of_a, of_b, same) in λ i. tid.Validating (conn i) (ord i) (record { 0 = c i })
tid_one (tid.Committed s n p) (tid.Committed t m q) of_a of_b same =
    let conn : s ≡ t = omega (arith, of_a, of_b, same) in
    let ord : n ≡ m = omega (arith, of_a, of_b, same) in
    let c : p.0 ≡ q.0 = omega (arith, of_a, of_b, same) in λ i. tid.Committed (conn i) (ord i) (record { 0 = c i })
tid_one (tid.RolledBack s n) (tid.RolledBack t m) of_a of_b same =
    let conn : s ≡ t = omega (arith, of_a, of_b, same) in let ord : n ≡ m = omega (arith, of_a, of_b, same) in λ i. tid.RolledBack (conn i) (ord i)
tid_one a b of_a of_b same = absurd (omega (arith, of_a, of_b, same))
