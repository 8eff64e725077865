-- The number above is empty, and past all that the seat has seen.
use Rattle.std.proofs.Common.{◌-◌, ◌+◌, ◌<◌, ◌≤◌}
use Rattle.hc_steps.specs.Same.{IsSame}
use Rattle.hc_tidlog.specs.Looking.{Narrows}
use Rattle.hc_tidlog.proofs.ends.halve.Given as goal

abbrev pub invariant-halves : goal.invariant-halves
invariant-halves l = record {
  narrows : Narrows l.initial.grip.layout l.upto l.high l.initial.grip.seat.me.0 l.grip.seat.me.0;
  above : l.grip.seat.me.0.seen.0 < l.high;
  high : l.high ≤ l.initial.grip.layout.transactions + 1;
  same : IsSame l.initial.grip l.grip;
}

abbrev pub decreases-halves : goal.decreases-halves
decreases-halves l = l.high - l.grip.seat.me.0.seen.0
