use Rattle.std.proofs.Common.{◌∙◌, ap, sym}
use Rattle.hc_schema.specs.Binding.Names.{same_name}
use Rattle.hc_bind.proofs.Columns.{not_called}
use Rattle.hc_bind.proofs.change.column_called.Goals as goal

pub loop-i-preserved : goal.loop-i-preserved
loop-i-preserved c =
    c.loop-i.invariant
    ∙ not_called c.args.columns.now c.loop-i.i c.index-columns-i.result c.args.name.now c.loop-i-test.true c.index-columns-i.is
    (ap (λ n. same_name n c.args.name.now) (sym c.as_str.ensures.text) ∙ sym c.is_same.ensures ∙ c.if-is_same.false)
