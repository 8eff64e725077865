-- What was claimed is owned.
use Rattle.hc_pool.proofs.Finds.{claims_owns}
use Rattle.hc_page_bench.proofs.claims.claim_one.Goals as goal

pub give_back-requires-clause-owns : goal.give_back-requires-clause-owns
give_back-requires-clause-owns c = claims_owns c.in-Ok.p.0 c.args.grip.now.seat.me.0 c.claim.new.grip.seat.me.0 c.in-Ok.ensures.claimed.1
