use Rattle.std.specs.Option.{option_copied}
use Rattle.hc_core.proofs.FrontWrites.{found_at}
use Rattle.hc_core.proofs.write_set.held_place.Goals as goal

pub returns : goal.returns
returns c = found_at c.args.key.now (option_copied c.args.rec) c.args.writes.now c.place_of.result c.place_of.ensures
