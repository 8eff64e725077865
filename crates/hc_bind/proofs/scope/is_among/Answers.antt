use Rattle.std.proofs.Common.{◌∙◌, sym}
use Rattle.hc_schema.specs.Binding.Names.{same_name}
use Rattle.hc_bind.proofs.Slots.{any_more, any_found}
use Rattle.hc_bind.proofs.scope.is_among.Goals as goal

pub returns-then-is_same : goal.returns-then-is_same
returns-then-is_same c =
    sym (any_found (λ source. same_name source c.args.name.now) (λ source. source.now) c.args.sources.now c.loop-source.source-index _ c.loop-source-test.true c.loop-source.invariant (sym c.is_same.ensures ∙ c.if-is_same.true))

pub loop-source-preserved : goal.loop-source-preserved
loop-source-preserved c =
    any_more (λ source. same_name source c.args.name.now) (λ source. source.now) c.args.sources.now c.loop-source.source-index _ c.loop-source-test.true c.loop-source.invariant (sym c.is_same.ensures ∙ c.if-is_same.false)
