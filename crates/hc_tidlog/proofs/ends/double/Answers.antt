-- One look after another.
use Rattle.std.proofs.Common.{◌+◌, refl, subst, arith}
use Rattle.hc_tidlog.specs.Looking.{Looked, FindsEmpty}
use Rattle.hc_tidlog.proofs.Looks.{looked_none, looked_both, empty_before, same_after}
use Rattle.hc_tidlog.proofs.ends.double.Goals as goal

pub steps-init : goal.steps-init
steps-init c = record { looked = looked_none c.args.grip.now.layout c.args.grip.now.seat.me.0; some = omega arith; last = refl; same = ((refl, refl, refl), refl) }

pub returns-then-not-is_taken-clause-empty : goal.returns-then-not-is_taken-clause-empty
returns-then-not-is_taken-clause-empty c =
    empty_before c.args.grip.now.layout (c.seen-seen.result.0 + c.min.result) c.args.grip.now.seat.me.0 c.steps.grip.seat.me.0 c.is_taken.new.grip.seat.me.0 c.steps.invariant.looked
    (subst (λ y. FindsEmpty y (c.seen-seen.result.0 + c.min.result) c.steps.grip.seat.me.0 c.is_taken.new.grip.seat.me.0) c.steps.invariant.same.0.0 c.if-not-is_taken.ensures.looked.0)

pub steps-preserved : goal.steps-preserved
steps-preserved c = record {
  looked =
      looked_both c.args.grip.now.layout c.args.grip.now.seat.me.0 c.steps.grip.seat.me.0 c.is_taken.new.grip.seat.me.0 c.steps.invariant.looked
      (subst (λ y. Looked y c.steps.grip.seat.me.0 c.is_taken.new.grip.seat.me.0) c.steps.invariant.same.0.0 c.if-not-is_taken.ensures.looked.0);
  some = omega (arith, c.steps.invariant.some, c.saturating_mul-step.ensures);
  last = c.steps.invariant.last;
  same = same_after c.args.grip.now c.steps.grip c.is_taken.new.grip c.steps.invariant.same c.is_taken.ensures.same;
}
