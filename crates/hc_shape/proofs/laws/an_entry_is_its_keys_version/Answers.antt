use Rattle.hc_shape.proofs.Versions.{own_version}
use Rattle.hc_shape.proofs.laws.an_entry_is_its_keys_version.Goals as goal

pub returns : goal.returns
returns c = own_version
