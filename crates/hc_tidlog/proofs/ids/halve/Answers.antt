-- One id found drawn after another.
use Rattle.std.proofs.Common.{ℕ, ◌+◌, ◌-◌, ◌/◌, refl, subst, true, false, arith}
use Rattle.hc_tidlog.specs.Seeking.{LookedAt}
use Rattle.hc_tidlog.proofs.Looks.{same_after}
use Rattle.hc_tidlog.proofs.Seeks.{reached_none, reached_looked, reached_empty, reached_both}
use Rattle.hc_tidlog.proofs.ids.halve.Goals as goal

pub halves-init : goal.halves-init
halves-init c = record {
  reached = reached_none c.args.grip.now.layout c.args.span.low c.args.grip.now.seat.me.0;
  below = c.requires.low;
  high = c.requires.high;
  same = ((refl, refl, refl), refl);
}

pub halves-preserved-then-is_drawn : goal.halves-preserved-then-is_drawn
halves-preserved-then-is_drawn c =
    let y = c.args.grip.now.layout in
    let middle : ℕ = c.halves.low + (c.halves.high - c.halves.low) / 2 in record {
      reached = reached_both y c.args.span.low c.halves.low middle c.args.grip.now.seat.me.0 c.halves.grip.seat.me.0 c.is_drawn.new.grip.seat.me.0 c.halves.invariant.reached
          (reached_looked y c.halves.low middle c.halves.grip.seat.me.0 c.is_drawn.new.grip.seat.me.0 (subst (λ x. LookedAt x (c.halves.low + (c.halves.high - c.halves.low) / 2) c.halves.grip.seat.me.0 true c.is_drawn.new.grip.seat.me.0) c.halves.invariant.same.0.0 c.if-is_drawn.ensures.looked));
      below = omega (arith, c.halves-test.true);
      high = c.halves.invariant.high;
      same = same_after c.args.grip.now c.halves.grip c.is_drawn.new.grip c.halves.invariant.same c.is_drawn.ensures.same;
    }

pub halves-preserved : goal.halves-preserved
halves-preserved c =
    let y = c.args.grip.now.layout in
    let middle : ℕ = c.halves.low + (c.halves.high - c.halves.low) / 2 in record {
      reached = reached_both y c.args.span.low c.halves.low c.halves.low c.args.grip.now.seat.me.0 c.halves.grip.seat.me.0 c.is_drawn.new.grip.seat.me.0 c.halves.invariant.reached
          (reached_empty y c.halves.low middle c.halves.grip.seat.me.0 c.is_drawn.new.grip.seat.me.0 (subst (λ x. LookedAt x (c.halves.low + (c.halves.high - c.halves.low) / 2) c.halves.grip.seat.me.0 false c.is_drawn.new.grip.seat.me.0) c.halves.invariant.same.0.0 c.if-is_drawn.ensures.looked));
      below = omega (arith, c.halves-test.true);
      high = omega (arith, c.halves-test.true, c.halves.invariant.high);
      same = same_after c.args.grip.now c.halves.grip c.is_drawn.new.grip c.halves.invariant.same c.is_drawn.ensures.same;
    }
