use Rattle.hc_core.proofs.WorkedRuns.{under_a_newer_one_is}
use Rattle.hc_core.proofs.examples.a_version_under_a_newer_one_is_found.Goals as goal

pub returns : goal.returns
returns c = under_a_newer_one_is
