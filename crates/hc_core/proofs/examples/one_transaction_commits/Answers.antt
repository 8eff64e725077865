use Rattle.hc_core.proofs.WorkedRuns.{one_commit_is}
use Rattle.hc_core.proofs.examples.one_transaction_commits.Goals as goal

pub returns : goal.returns
returns c = one_commit_is
