use Rattle.hc_reply.proofs.Outputs.{one_fault}
use Rattle.hc_reply.proofs.laws.one_fault.Goals as goal

pub returns : goal.returns
returns c = one_fault
