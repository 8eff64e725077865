-- The lower id is reached, and the higher one is at most one past the last.
use Rattle.std.proofs.Common.{◌-◌, ◌+◌, ◌<◌, ◌≤◌}
use Rattle.hc_steps.specs.Same.{IsSame}
use Rattle.hc_tidlog.specs.Seeking.{Reached}
use Rattle.hc_tidlog.proofs.ids.halve.Given as goal

abbrev pub invariant-halves : goal.invariant-halves
invariant-halves l = record {
  reached : Reached l.initial.grip.layout l.fn.span.low l.low l.initial.grip.seat.me.0 l.grip.seat.me.0;
  below : l.low < l.high;
  high : l.high ≤ l.initial.grip.layout.transactions + 1;
  same : IsSame l.initial.grip l.grip;
}

abbrev pub decreases-halves : goal.decreases-halves
decreases-halves l = l.high - l.low
