use Rattle.hc_meaning.proofs.OneRun.OnlyOutput.{only-output}
use Rattle.hc_meaning.proofs.laws.an_input_has_one_right_output.Goals as goal

pub returns : goal.returns
returns c = only-output
