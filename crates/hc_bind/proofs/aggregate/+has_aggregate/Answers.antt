use Rattle.std.proofs.Common.{◌∙◌, ap, sym}
use Rattle.hc_schema.specs.Binding.Expressions.{has_aggregate}
use Rattle.hc_bind.proofs.Slots.{any_more, any_found}
use Rattle.hc_bind.proofs.aggregate.+has_aggregate.Goals as goal

pub any_has-loop-e-preserved : goal.any_has-loop-e-preserved
any_has-loop-e-preserved t c =
    any_more (λ flag. flag) has_aggregate c.args.list.now c.loop-e.e-index c.e-item.result c.loop-e-test.true c.loop-e.invariant
    (ap has_aggregate (sym c.e-item.is) ∙ sym c.has_aggregate.ensures ∙ c.if-has_aggregate.false)

pub any_has-returns-then-has_aggregate : goal.any_has-returns-then-has_aggregate
any_has-returns-then-has_aggregate t c =
    sym (any_found (λ flag. flag) has_aggregate c.args.list.now c.loop-e.e-index c.e-item.result c.loop-e-test.true c.loop-e.invariant
    (ap has_aggregate (sym c.e-item.is) ∙ sym c.has_aggregate.ensures ∙ c.if-has_aggregate.true))
