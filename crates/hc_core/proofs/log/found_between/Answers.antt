use Rattle.std.proofs.Common.{◌-◌}
use Rattle.hc_core.specs.Account.{part_of}
use Rattle.hc_core.proofs.LogFound.{least_is_put, met_between}
use Rattle.hc_core.proofs.LogShort.{short_take}
use Rattle.hc_core.proofs.log.found_between.Goals as goal

-- a part of the log is as short as the log
pub least_after-requires : goal.least_after-requires
least_after-requires c = short_take c.args.log.now (c.args.number - 1) c.requires.short

-- some entry puts the key
pub unreachable-requires : goal.unreachable-requires
unreachable-requires c =
    least_is_put c.args.snapshot c.args.number (part_of c.args.from.now c.args.upto.now) c.args.log.now c.in-Some.key _ _ c.least_after.ensures c.in-Some.is c.as_slice.ensures.bytes c.in_default-newest_with.ensures

pub returns : goal.returns
returns c =
    met_between c.args.snapshot c.args.number (part_of c.args.from.now c.args.upto.now) c.args.log.now c.in-Some.key _ _ c.met_at.result _ c.least_after.ensures c.in-Some.is c.as_slice.ensures.bytes c.in-Some-newest_with.ensures c.met_at.ensures
