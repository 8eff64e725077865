-- The seat looked, and what the next look is at is a place.
use Rattle.std.proofs.Common.{◌≡◌, ◌-◌, ◌<◌}
use Rattle.hc_steps.specs.Same.{IsSame}
use Rattle.hc_tidlog.specs.Looking.{Looked}
use Rattle.hc_tidlog.proofs.ends.double.Given as goal

abbrev pub invariant-steps : goal.invariant-steps
invariant-steps l = record {
  looked : Looked l.initial.grip.layout l.initial.grip.seat.me.0 l.grip.seat.me.0;
  some : 0 < l.step;
  last : l.last ≡ l.initial.grip.layout.transactions;
  same : IsSame l.initial.grip l.grip;
}

abbrev pub decreases-steps : goal.decreases-steps
decreases-steps l = l.grip.layout.transactions - l.grip.seat.me.0.seen.0
