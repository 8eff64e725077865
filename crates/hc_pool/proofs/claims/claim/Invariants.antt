-- The pages before are found taken, each by one look.
use Rattle.hc_pool.specs.Claiming.{LooksInTurn}
use Rattle.hc_steps.specs.Same.{IsSame}
use Rattle.hc_pool.proofs.claims.claim.Given as goal

abbrev pub invariant-turns : goal.invariant-turns
invariant-turns l = record {
  looks : LooksInTurn l.initial.grip.layout l.hint l.looked l.initial.grip.seat.me.0 l.grip.seat.me.0;
  same : IsSame l.initial.grip l.grip;
}
