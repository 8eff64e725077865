use Rattle.std.proofs.Common.{length, arith, ap}
use Rattle.std.proofs.lemmas.List.Sums.{sum_by_more_le}
use Rattle.hc_plan.proofs.planning.width.Goals as goal

pub overflow_add-width : goal.overflow_add-width
overflow_add-width c =
    let more = sum_by_more_le (λ t. length t.now.columns) c.args.tables.now c.loop-t.t-index c.t-item.result c.loop-t-test.true in
    let this = ap (λ t. length t.now.columns) c.t-item.is in
    omega (arith, more, this, c.loop-t.invariant, c.len.ensures, c.requires)
