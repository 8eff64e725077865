use Rattle.hc_reply.proofs.Outputs.{one_spelling}
use Rattle.hc_reply.proofs.laws.one_spelling.Goals as goal

pub returns : goal.returns
returns c = one_spelling
