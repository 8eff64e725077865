use Rattle.hc_meaning.proofs.SerialRun.Alone.{right-alone}
use Rattle.hc_meaning.proofs.laws.a_serial_run_is_right.Goals as goal

pub returns : goal.returns
returns c = right-alone
