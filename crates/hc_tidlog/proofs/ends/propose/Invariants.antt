-- The seat looked.
use Rattle.std.proofs.Common.{◌-◌}
use Rattle.hc_steps.specs.Same.{IsSame}
use Rattle.hc_tidlog.specs.Looking.{Looked}
use Rattle.hc_tidlog.proofs.ends.propose.Given as goal

abbrev pub invariant-looks : goal.invariant-looks
invariant-looks l = record {
  looked : Looked l.initial.grip.layout l.initial.grip.seat.me.0 l.grip.seat.me.0;
  same : IsSame l.initial.grip l.grip;
}

abbrev pub decreases-looks : goal.decreases-looks
decreases-looks l = l.grip.layout.transactions - l.grip.seat.me.0.seen.0
