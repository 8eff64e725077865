-- Holders: a seat owns pages only while it is registered, so an idle one owns none.
use Rattle.std.specs.Prelude.{ℕ, List, ⊤}
use Rattle.hc_base.specs.Lookup.{Among}
use Rattle.hc_base.specs.declared.seat_word.SeatWord.{SeatWord}
use Rattle.hc_base.specs.declared.seat_word.SeatWord.TheVariants as seat
use Rattle.hc_rule.specs.declared.view.Row.{Row}

-- the word of the seat's connection has a snapshot
abbrev pub IsRegistered : SeatWord → Type 0
IsRegistered seat.Idle = ⊥
IsRegistered seat.Starting = ⊥
IsRegistered (seat.Snapshot snapshot) = ⊤

-- `stage` has the words of the seats' connections, and `hand` the pages that the seats own
pub record AreHolders (stage : ℕ → SeatWord) (hand : ℕ → List Row) : Type 0 where
  pub registered : (i : ℕ) (row : Row) → Among row (hand i) → IsRegistered (stage i)
