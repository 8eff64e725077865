use Rattle.hc_meaning.proofs.Language.Scripts.{script_once}
use Rattle.hc_meaning.proofs.laws.a_script_has_one_reading.Goals as goal

pub returns : goal.returns
returns c = script_once
