use Rattle.hc_meaning.proofs.OneRun.OnlyRun.{only-right}
use Rattle.hc_meaning.proofs.laws.a_right_run_is_the_serial_one.Goals as goal

pub returns : goal.returns
returns c = only-right
