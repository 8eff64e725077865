-- The page is owned, and the seat registered.
use Rattle.hc_rows.specs.Places.{HasPage}
use Rattle.hc_rule.specs.Holders.{IsRegistered}
use Rattle.hc_rule.specs.Kinds.StorePage.{Owns}
use Rattle.hc_page_bench.proofs.claims.writes.Given as goal

abbrev pub invariant-turns : goal.invariant-turns
invariant-turns l = record {
  there : HasPage l.grip.layout l.p.0;
  owns : Owns l.grip.seat.me.0 l.p.0;
  registered : IsRegistered l.grip.seat.me.0.stage;
}
