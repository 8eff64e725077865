-- Its place is that of no other word.
use Rattle.hc_rows.proofs.Steps.{at_map, map_below}
use Rattle.hc_rows.proofs.laws.map_steps_are_alone.Goals as goal

pub returns : goal.returns
returns c = λ y words l n sized there. (map_below y l there, at_map y words l n sized there)
