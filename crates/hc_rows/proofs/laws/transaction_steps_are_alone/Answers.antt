-- Its place is that of no other word.
use Rattle.hc_rows.proofs.Steps.{at_tid, tid_below}
use Rattle.hc_rows.proofs.laws.transaction_steps_are_alone.Goals as goal

pub returns : goal.returns
returns c = λ y words t n sized there. (tid_below y t there, at_tid y words t n sized there)
