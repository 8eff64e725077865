use Rattle.std.proofs.Common.{map}
use Rattle.std.specs.Option.{option_map}
use Rattle.hc_bind.specs.Scopes.{slot_of}
use Rattle.hc_bind.specs.Settings.{read_on, answer_of, star_if}
use Rattle.hc_bind.proofs.Judging.{walk_more_at, walk_why_at}
use Rattle.hc_bind.proofs.query.push_star.Goals as goal

pub loop-slot-preserved : goal.loop-slot-preserved
loop-slot-preserved c =
    walk_more_at (λ before slot. star_if (read_on c.args.setting.now).grouping (option_map (λ s. s.now) c.args.of) before (slot_of slot)) (map answer_of c.args.out.now.items) c.args.slots.now c.loop-slot.slot-index _
    (map answer_of c.loop-slot.out.items) (map answer_of c.push_column.new.out.items) c.loop-slot-test.true c.loop-slot.invariant c.in-Ok.ensures

pub returns-in-Err : goal.returns-in-Err
returns-in-Err c =
    walk_why_at (λ before slot. star_if (read_on c.args.setting.now).grouping (option_map (λ s. s.now) c.args.of) before (slot_of slot)) (map answer_of c.args.out.now.items) c.args.slots.now c.loop-slot.slot-index _
    (map answer_of c.loop-slot.out.items) c.in-Err.fault c.loop-slot-test.true c.loop-slot.invariant c.in-Err.ensures
