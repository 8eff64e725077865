-- Its place is that of no other word.
use Rattle.hc_rows.proofs.Steps.{at_log, log_below}
use Rattle.hc_rows.proofs.laws.log_steps_are_alone.Goals as goal

pub returns : goal.returns
returns c = λ y words c n sized there. (log_below y c there, at_log y words c n sized there)
