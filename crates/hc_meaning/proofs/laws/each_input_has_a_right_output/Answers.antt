use Rattle.hc_meaning.proofs.SerialRun.SerialOutput.{has-right-output}
use Rattle.hc_meaning.proofs.laws.each_input_has_a_right_output.Goals as goal

pub returns : goal.returns
returns c = has-right-output
