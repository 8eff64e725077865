use Rattle.std.proofs.Common.{Some, arith, sym}
use Rattle.hc_range.proofs.ByteOrder.{below_irrefl}
use Rattle.hc_test_pages.proofs.SmallPages.{fence_is, one_child}
use Rattle.hc_test_pages.proofs.small_pages.inner_between.Goals as goal

pub started_inner-requires-clause-content : goal.started_inner-requires-clause-content
started_inner-requires-clause-content c =
    one_child 1 7 11 (Some (record { 0 = 9 })) c.args.low.now (Some c.args.high.now) (omega arith, omega arith) (omega arith, omega arith) (omega arith, omega arith) (omega arith, omega arith)
    (fence_is c.args.low.now c.requires.low c.type_inv.low) (fence_is c.args.high.now c.requires.high c.type_inv.high) (below_irrefl c.args.low.now, sym c.if-not-is_below.ensures)
