-- One look after another, down to the place after all that is seen.
use Rattle.std.proofs.Common.{◌+◌, subst}
use Rattle.hc_tidlog.specs.Looking.{Narrows}
use Rattle.hc_tidlog.proofs.Looks.{narrows_end}
use Rattle.hc_tidlog.proofs.ends.find_end.Goals as goal

pub returns-clause-end : goal.returns-clause-end
returns-clause-end c =
    let end = c.halve.new.grip.seat.me.0.seen.0 + 1 in
    narrows_end c.args.grip.now.layout c.double-upto.result end c.args.grip.now.seat.me.0 c.double-upto.new.grip.seat.me.0 c.halve.new.grip.seat.me.0 c.double-upto.ensures.empty
    (subst (λ y. Narrows y c.double-upto.result (c.halve.new.grip.seat.me.0.seen.0 + 1) c.double-upto.new.grip.seat.me.0 c.halve.new.grip.seat.me.0) c.double-upto.ensures.same.0.0 c.halve.ensures.narrows)
