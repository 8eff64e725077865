use Rattle.std.proofs.Common.{◌-◌, ◌∙◌, subst, sym, arith}
use Rattle.hc_test_desks.specs.Putting.{IsBelowFirst}
use Rattle.hc_test_desks.proofs.Reserved.{here_first, one_more, up_to_end}
use Rattle.hc_test_desks.proofs.phases.may_be_reserved.Goals as goal

-- those from here on may be reserved
pub loop-left-preserved : goal.loop-left-preserved
loop-left-preserved c =
    let w = c.index-writes-left.result in
    let here = here_first c.args.writes.now c.loop-left.left w c.loop-left-test.true c.loop-left.invariant.0 c.index-writes-left.is in
    let below : IsBelowFirst w.key _ = subst (IsBelowFirst w.key) (up_to_end c.args.writes.now c.loop-left.left) (c.is_below_first.ensures c.if-not-is_below_first.false) in
    let both = one_more c.args.writes.now (c.loop-left.left - 1) c.loop-left.left w here (sym c.fits.ensures ∙ c.if-not-fits.false) below c.loop-left.invariant.1 c.loop-left.invariant.2 in
    (omega (arith, c.loop-left.invariant.0), both.0, both.1)
