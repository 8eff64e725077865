-- The numbers are those of the region.
use Rattle.std.proofs.Common.{◌≤◌}
use Rattle.hc_steps.specs.Same.{IsSame}
use Rattle.hc_engine_tests.proofs.commits.count_ids.Given as goal

abbrev pub invariant-loop-number : goal.invariant-loop-number
invariant-loop-number l = record {
  low : 1 ≤ l.number;
  same : IsSame l.initial.grip l.grip;
}
