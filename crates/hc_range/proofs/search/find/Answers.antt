use Rattle.std.proofs.Common.{sym, ◌∙◌, ap}
use Rattle.hc_range.specs.Order.{is_below}
use Rattle.hc_range.proofs.Searched.{none_holds, none_holds_before}
use Rattle.hc_range.proofs.search.find.Goals as goal

pub returns-in_err-range-clause-absent : goal.returns-in_err-range-clause-absent
returns-in_err-range-clause-absent c =
    rw c.from_residual.ensures
    (none_holds c.args.key.now c.count_passed.result c.args.ranges.now c.count_passed.ensures.within c.in_err-range.ensures.lookup.3 c.count_passed.ensures.passed)

pub returns-then-is_below-clause-absent : goal.returns-then-is_below-clause-absent
returns-then-is_below-clause-absent c =
    none_holds_before c.args.key.now c.count_passed.result c.args.ranges.now c.in_ok-range.range.now c.requires
    c.in_ok-range.ensures.lookup.3.0 c.count_passed.ensures.passed c.count_passed.ensures.others c.in_ok-range.ensures.lookup.1
    (ap (is_below c.args.key.now) (sym c.as_slice.ensures) ∙ sym c.is_below.ensures ∙ c.if-is_below.true)
