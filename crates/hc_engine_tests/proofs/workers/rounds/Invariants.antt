-- The seat has what it had.
use Rattle.hc_steps.specs.Same.{IsAlike}
use Rattle.hc_engine_tests.specs.Holding.{KeepsRest}
use Rattle.hc_engine_tests.proofs.workers.rounds.Given as goal

abbrev pub invariant-rounds : goal.invariant-rounds
invariant-rounds l = record {
  kept : KeepsRest l.initial.grip.seat.me.0 l.grip.seat.me.0;
  same : IsAlike l.initial.grip l.grip;
}
