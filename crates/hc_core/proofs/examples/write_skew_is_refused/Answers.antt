use Rattle.hc_core.proofs.WorkedRuns.{write_skew_is}
use Rattle.hc_core.proofs.examples.write_skew_is_refused.Goals as goal

pub returns : goal.returns
returns c = write_skew_is
