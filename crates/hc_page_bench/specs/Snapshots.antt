-- Snapshots: whether the word of a connection has one.
use Rattle.std.specs.Prelude.{Bool, true, false}
use Rattle.hc_base.specs.declared.seat_word.SeatWord.{SeatWord}
use Rattle.hc_base.specs.declared.seat_word.SeatWord.TheVariants as seat

-- the seat reads a snapshot
abbrev pub has_snapshot : SeatWord → Bool
has_snapshot seat.Idle = false
has_snapshot seat.Starting = false
has_snapshot (seat.Snapshot snapshot) = true
