-- The page is owned, also once its row is written.
use Rattle.std.proofs.Common.{sym, subst, refl, ◌∙◌}
use Rattle.hc_rows.specs.Places.{HasPage}
use Rattle.hc_rule.specs.Hands.{set_words}
use Rattle.hc_rule.specs.Holders.{IsRegistered}
use Rattle.hc_rule.specs.Kinds.StorePage.{Owns}
use Rattle.hc_rule.proofs.Rewriting.{still_owned}
use Rattle.hc_pool.proofs.Finds.{claims_owns}
use Rattle.hc_page_bench.proofs.claims.writes.Goals as goal

pub turns-init : goal.turns-init
turns-init c = record {
  there = subst (λ y. HasPage y c.in-Ok.p.0) (sym c.in-Ok.ensures.same.0) c.in-Ok.ensures.claimed.0;
  owns = claims_owns c.in-Ok.p.0 c.args.grip.now.seat.me.0 c.claim.new.grip.seat.me.0 c.in-Ok.ensures.claimed.1;
  registered = c.claim.ensures.registered;
}

pub write_page-requires-in-turns-clause-owns : goal.write_page-requires-in-turns-clause-owns
write_page-requires-in-turns-clause-owns c =
    subst (λ w. Owns w c.in-Ok.p.0) (sym c.write_page.ensures.written) (still_owned c.in-Ok.p.0 (set_words c.args.one.now.words) (λ z. refl) c.turns.grip.seat.me.0 c.turns.invariant.owns)

pub turns-preserved : goal.turns-preserved
turns-preserved c = record {
  there = subst (λ y. HasPage y c.in-Ok.p.0) (sym (c.write_page-in-turns.ensures.same.0.0 ∙ c.write_page.ensures.same.0.0)) c.turns.invariant.there;
  owns =
      subst (λ w. Owns w c.in-Ok.p.0) (sym c.write_page-in-turns.ensures.written)
      (still_owned c.in-Ok.p.0 (set_words c.args.other.now.words) (λ z. refl) c.write_page.new.self.seat.me.0
      (subst (λ w. Owns w c.in-Ok.p.0) (sym c.write_page.ensures.written) (still_owned c.in-Ok.p.0 (set_words c.args.one.now.words) (λ z. refl) c.turns.grip.seat.me.0 c.turns.invariant.owns)));
  registered = subst (λ w. IsRegistered w.stage) (sym c.write_page-in-turns.ensures.written) (subst (λ w. IsRegistered w.stage) (sym c.write_page.ensures.written) c.turns.invariant.registered);
}
