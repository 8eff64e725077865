-- The lower id is reached, and what the next look is at is an id.
use Rattle.std.proofs.Common.{◌-◌, ◌<◌, ◌≤◌}
use Rattle.hc_steps.specs.Same.{IsSame}
use Rattle.hc_tidlog.specs.Seeking.{Reached}
use Rattle.hc_tidlog.proofs.ids.double.Given as goal

abbrev pub invariant-steps : goal.invariant-steps
invariant-steps l = record {
  reached : Reached l.initial.grip.layout l.from l.low l.initial.grip.seat.me.0 l.grip.seat.me.0;
  some : 0 < l.step;
  within : l.low ≤ l.last;
  last : l.last ≤ l.initial.grip.layout.transactions;
  same : IsSame l.initial.grip l.grip;
}

abbrev pub decreases-steps : goal.decreases-steps
decreases-steps l = l.last - l.low
