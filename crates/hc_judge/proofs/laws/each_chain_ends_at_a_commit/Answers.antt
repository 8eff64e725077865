use Rattle.hc_judge.proofs.Chains.{each_chain_ends}
use Rattle.hc_judge.proofs.laws.each_chain_ends_at_a_commit.Goals as goal

pub returns : goal.returns
returns g c = each_chain_ends g.T.Speech.language
