use Rattle.std.proofs.Common.{[], None, arith}
use Rattle.hc_range.proofs.ByteOrder.{empty_least}
use Rattle.hc_test_pages.proofs.SmallPages.{fence_is, one_child}
use Rattle.hc_test_pages.proofs.small_pages.top.Goals as goal

pub started_inner-requires-clause-content : goal.started_inner-requires-clause-content
started_inner-requires-clause-content c =
    one_child 3 2 11 None [] None (omega arith, omega arith) (omega arith, omega arith) (omega arith, omega arith) tt (fence_is [] (omega arith) (λ i. omega arith)) tt (empty_least [], tt)
