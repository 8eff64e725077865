use Rattle.std.proofs.Common.{sym, ◌∙◌}
use Rattle.hc_schema.specs.Paths.{facts}
use Rattle.hc_plan.proofs.Counting.{all_so_far, one_is_not}
use Rattle.hc_plan.proofs.pins.+before.Goals as goal

pub are_before-returns-then-not-is_before : goal.are_before-returns-then-not-is_before
are_before-returns-then-not-is_before t c =
    sym (one_is_not (facts c.args.offset) c.args.list.now c.loop-e.e-index c.e-item.result c.loop-e-test.true c.e-item.is (sym c.is_before.ensures ∙ c.if-not-is_before.true))

pub are_before-loop-e-preserved : goal.are_before-loop-e-preserved
are_before-loop-e-preserved t c =
    all_so_far (facts c.args.offset) c.args.list.now c.loop-e.e-index c.e-item.result c.loop-e-test.true c.e-item.is c.loop-e.invariant (sym c.is_before.ensures ∙ c.if-not-is_before.false)
