-- The pages are those of the region, and the seat stays idle.
use Rattle.std.proofs.Common.{◌≤◌}
use Rattle.hc_pool.specs.Registering.{IsIdleSeat}
use Rattle.hc_steps.specs.Same.{IsSame}
use Rattle.hc_engine_tests.proofs.workers.free_pages.Given as goal

abbrev pub invariant-loop-number : goal.invariant-loop-number
invariant-loop-number l = record {
  low : 1 ≤ l.number;
  same : IsSame l.initial.grip l.grip;
  idle : IsIdleSeat l.grip.seat.me.0;
}
