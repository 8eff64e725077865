-- What was claimed is owned, also after a claim that found no page.
use Rattle.hc_rows.specs.Places.{HasPage}
use Rattle.hc_pool.proofs.Finds.{claims_owns, finds_owns}
use Rattle.hc_engine_tests.proofs.pool.claim_twice.Goals as goal

pub give_back-requires-clause-owns : goal.give_back-requires-clause-owns
give_back-requires-clause-owns c =
    let before = c.args.grip.now.seat.me.0 in
    let between = c.claim.new.grip.seat.me.0 in
    finds_owns c.claim.new.grip.layout c.in_ok-p.p.0 between c.claim-2.new.grip.seat.me.0 (HasPage c.claim.new.grip.layout) c.in-Err.ensures.cause
    (claims_owns c.in_ok-p.p.0 before between c.in_ok-p.ensures.claimed.1)
