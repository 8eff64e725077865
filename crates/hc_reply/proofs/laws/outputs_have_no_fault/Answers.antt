use Rattle.hc_reply.proofs.Outputs.{no_fault}
use Rattle.hc_reply.proofs.laws.outputs_have_no_fault.Goals as goal

pub returns : goal.returns
returns c = no_fault
