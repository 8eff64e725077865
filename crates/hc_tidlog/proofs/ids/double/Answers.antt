-- One id found drawn after another.
use Rattle.std.proofs.Common.{◌+◌, refl, subst, true, false, arith}
use Rattle.hc_tidlog.specs.Seeking.{LookedAt}
use Rattle.hc_tidlog.proofs.Looks.{same_after}
use Rattle.hc_tidlog.proofs.Seeks.{reached_none, reached_looked, reached_empty, reached_both}
use Rattle.hc_tidlog.proofs.ids.double.Goals as goal

pub steps-init : goal.steps-init
steps-init c = record {
  reached = reached_none c.args.grip.now.layout c.args.from c.args.grip.now.seat.me.0;
  some = omega arith;
  within = c.requires.from;
  last = omega arith;
  same = ((refl, refl, refl), refl);
}

pub returns-then-not-is_drawn-clause-reached : goal.returns-then-not-is_drawn-clause-reached
returns-then-not-is_drawn-clause-reached c =
    let y = c.args.grip.now.layout in
    let id = c.steps.low + c.steps.step in
    reached_both y c.args.from c.steps.low c.steps.low c.args.grip.now.seat.me.0 c.steps.grip.seat.me.0 c.is_drawn.new.grip.seat.me.0 c.steps.invariant.reached
    (reached_empty y c.steps.low id c.steps.grip.seat.me.0 c.is_drawn.new.grip.seat.me.0 (subst (λ x. LookedAt x (c.steps.low + c.steps.step) c.steps.grip.seat.me.0 false c.is_drawn.new.grip.seat.me.0) c.steps.invariant.same.0.0 c.if-not-is_drawn.ensures.looked))

pub steps-preserved : goal.steps-preserved
steps-preserved c =
    let y = c.args.grip.now.layout in
    let id = c.steps.low + c.steps.step in record {
      reached = reached_both y c.args.from c.steps.low id c.args.grip.now.seat.me.0 c.steps.grip.seat.me.0 c.is_drawn.new.grip.seat.me.0 c.steps.invariant.reached
          (reached_looked y c.steps.low id c.steps.grip.seat.me.0 c.is_drawn.new.grip.seat.me.0 (subst (λ x. LookedAt x (c.steps.low + c.steps.step) c.steps.grip.seat.me.0 true c.is_drawn.new.grip.seat.me.0) c.steps.invariant.same.0.0 c.if-not-is_drawn.ensures.looked));
      some = omega (arith, c.steps.invariant.some, c.saturating_mul-step.ensures);
      within = omega (arith, c.steps-test.true, c.steps.invariant.within);
      last = c.steps.invariant.last;
      same = same_after c.args.grip.now c.steps.grip c.is_drawn.new.grip c.steps.invariant.same c.is_drawn.ensures.same;
    }
