-- What was claimed is owned, and its word may name any next page.
use Rattle.std.proofs.Common.{sym, ◌∙◌, arith}
use Rattle.hc_pool.proofs.Finds.{claims_owns}
use Rattle.hc_engine_tests.proofs.pool.thread_page.Goals as goal

pub store_page-requires-clause-owns : goal.store_page-requires-clause-owns
store_page-requires-clause-owns c = claims_owns c.in_ok-p.p.0 c.args.grip.now.seat.me.0 c.claim.new.grip.seat.me.0 c.in_ok-p.ensures.claimed.1

pub store_page-requires-clause-form : goal.store_page-requires-clause-form
store_page-requires-clause-form c = ((omega (arith, c.ranges.seat.fits), omega (arith, c.ranges.next.fits)), (c.requires.seat ∙ sym c.in_ok-p.ensures.same.1, omega (arith, c.ranges.next.fits)))
