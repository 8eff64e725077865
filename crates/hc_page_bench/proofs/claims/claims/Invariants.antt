-- The seat stays registered.
use Rattle.hc_rule.specs.Holders.{IsRegistered}
use Rattle.hc_page_bench.proofs.claims.claims.Given as goal

abbrev pub invariant-rounds : goal.invariant-rounds
invariant-rounds l = record { registered : IsRegistered l.grip.seat.me.0.stage }
