-- Its place is that of no other word.
use Rattle.hc_rows.proofs.Steps.{at_seat, seat_below}
use Rattle.hc_rows.proofs.laws.seat_steps_are_alone.Goals as goal

pub returns : goal.returns
returns c = λ y words conn n sized there. (seat_below y conn there, at_seat y words conn n sized there)
