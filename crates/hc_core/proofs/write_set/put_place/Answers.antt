use Rattle.hc_core.proofs.FrontWrites.{key_at}
use Rattle.hc_core.proofs.write_set.put_place.Goals as goal

pub returns : goal.returns
returns c = key_at c.args.key.now c.args.put.now c.place_of_key.result c.place_of_key.ensures
