-- What was claimed is owned, also once its row is written and read.
use Rattle.std.proofs.Common.{◌∙◌, sym, subst, refl}
use Rattle.hc_rule.specs.Hands.{set_words}
use Rattle.hc_rule.specs.Kinds.StorePage.{Owns}
use Rattle.hc_rule.proofs.Rewriting.{still_owned}
use Rattle.hc_pool.proofs.Finds.{claims_owns}
use Rattle.hc_engine_tests.proofs.pool.rewrite.Goals as goal

pub write_page-requires-clause-owns : goal.write_page-requires-clause-owns
write_page-requires-clause-owns c = claims_owns c.in_ok-p.p.0 c.args.grip.now.seat.me.0 c.claim.new.grip.seat.me.0 c.in_ok-p.ensures.claimed.1

pub give_back-requires-clause-owns : goal.give_back-requires-clause-owns
give_back-requires-clause-owns c =
    let v = c.claim.new.grip.seat.me.0 in
    let p = c.in_ok-p.p.0 in
    subst (λ w. Owns w p) (sym (c.read_page.ensures.seat ∙ c.write_page.ensures.written))
    (still_owned p (set_words c.args.page.now.words) (λ z. refl) v (claims_owns p c.args.grip.now.seat.me.0 v c.in_ok-p.ensures.claimed.1))
