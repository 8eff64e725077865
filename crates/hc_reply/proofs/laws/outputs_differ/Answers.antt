use Rattle.hc_reply.proofs.Outputs.{outputs_differ}
use Rattle.hc_reply.proofs.laws.outputs_differ.Goals as goal

pub returns : goal.returns
returns c = outputs_differ
