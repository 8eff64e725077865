use Rattle.hc_core.proofs.LatestVersion.{versions_begin}
use Rattle.hc_core.proofs.laws.the_versions_of_a_key_begin_with_the_latest.Goals as goal

pub returns : goal.returns
returns c = versions_begin
