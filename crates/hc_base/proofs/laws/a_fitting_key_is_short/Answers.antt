use Rattle.hc_base.proofs.Entries.{short_key}
use Rattle.hc_base.proofs.laws.a_fitting_key_is_short.Goals as goal

pub returns : goal.returns
returns c = short_key
