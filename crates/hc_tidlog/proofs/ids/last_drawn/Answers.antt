-- One search after another.
use Rattle.std.proofs.Common.{◌∙◌, subst}
use Rattle.hc_tidlog.specs.Seeking.{Reached}
use Rattle.hc_tidlog.proofs.Seeks.{reached_both}
use Rattle.hc_tidlog.proofs.ids.last_drawn.Goals as goal

pub returns-clause-reached : goal.returns-clause-reached
returns-clause-reached c =
    let y = c.args.grip.now.layout in
    let second = c.first_drawn-from.ensures.same.0.0 in
    let third = c.double-span.ensures.same.0.0 ∙ c.first_drawn-from.ensures.same.0.0 in
    reached_both y 0 c.double-span.result.low c.halve.result c.args.grip.now.seat.me.0 c.double-span.new.grip.seat.me.0 c.halve.new.grip.seat.me.0
    (reached_both y 0 c.first_drawn-from.result c.double-span.result.low c.args.grip.now.seat.me.0 c.first_drawn-from.new.grip.seat.me.0 c.double-span.new.grip.seat.me.0 c.first_drawn-from.ensures.reached
    (subst (λ x. Reached x c.first_drawn-from.result c.double-span.result.low c.first_drawn-from.new.grip.seat.me.0 c.double-span.new.grip.seat.me.0) second c.double-span.ensures.reached))
    (subst (λ x. Reached x c.double-span.result.low c.halve.result c.double-span.new.grip.seat.me.0 c.halve.new.grip.seat.me.0) third c.halve.ensures.reached)
