use Rattle.std.proofs.Common.{◌≤◌}
use Rattle.hc_core.proofs.writers.least_snapshot.Given as goal

abbrev pub invariant-loop-each : goal.invariant-loop-each
invariant-loop-each l = l.least ≤ l.most
