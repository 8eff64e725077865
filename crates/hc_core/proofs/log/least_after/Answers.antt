use Rattle.std.proofs.Common.{◌-◌, drop, length}
use Rattle.hc_core.proofs.LogShort.{short_drop, short_take}
use Rattle.hc_core.proofs.log.least_after.Goals as goal

-- a part of the log is as short as the log
pub least_key-requires : goal.least_key-requires
least_key-requires c = short_take (drop c.args.place c.args.log.now) (length c.args.log.now - c.args.place) (short_drop c.args.log.now c.args.place c.requires)
