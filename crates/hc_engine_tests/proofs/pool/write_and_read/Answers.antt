-- What was claimed is owned.
use Rattle.hc_pool.proofs.Finds.{claims_owns}
use Rattle.hc_engine_tests.proofs.pool.write_and_read.Goals as goal

pub store_row-requires-clause-owns : goal.store_row-requires-clause-owns
store_row-requires-clause-owns c = claims_owns c.in_ok-p.p.0 c.args.grip.now.seat.me.0 c.claim.new.grip.seat.me.0 c.in_ok-p.ensures.claimed.1
