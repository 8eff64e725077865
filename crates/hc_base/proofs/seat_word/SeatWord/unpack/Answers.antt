use Rattle.std.proofs.Common.{rules, ◌≡◌, ◌≢◌, IfSome, IfNone, ℕ, ◌+◌, ◌-◌, ◌*◌, ◌<◌, ◌≤◌}
use Rattle.hc_base.specs.declared.seat_word.SeatWord.{SeatWord as Form}
use Rattle.hc_base.specs.Words.{IsSeatWord, seat_word}
use Rattle.hc_base.proofs.NoForm.{seat_none}
use Rattle.hc_base.proofs.seat_word.SeatWord.unpack.Goals as goal

pub returns-in_err-parts-clause-none : goal.returns-in_err-parts-clause-none
returns-in_err-parts-clause-none c = rw c.from_residual.ensures (seat_none c.in_err-parts.ensures.none)
