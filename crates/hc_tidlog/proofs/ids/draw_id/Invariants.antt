-- The id before the next one to be drawn is reached.
use Rattle.std.proofs.Common.{◌≡◌, ◌-◌, ◌≤◌}
use Rattle.hc_steps.specs.Same.{IsSame}
use Rattle.hc_tidlog.specs.Seeking.{Reached}
use Rattle.hc_tidlog.proofs.ids.draw_id.Given as goal

abbrev pub invariant-ids : goal.invariant-ids
invariant-ids l = record {
  reached : Reached l.initial.grip.layout l.initial.low l.low l.initial.grip.seat.me.0 l.grip.seat.me.0;
  within : l.low ≤ l.last;
  last : l.last ≡ l.initial.grip.layout.transactions;
  same : IsSame l.initial.grip l.grip;
}

abbrev pub decreases-ids : goal.decreases-ids
decreases-ids l = l.last - l.low
