use Rattle.std.proofs.Common.{◌∙◌, ap, sym, take, Some}
use Rattle.std.proofs.lemmas.List.Sums.{fold_more}
use Rattle.hc_schema.specs.Binding.Classes.{with_class, one_class}
use Rattle.hc_bind.proofs.class.one_class.Goals as goal

pub loop-t-preserved : goal.loop-t-preserved
loop-t-preserved c =
    c.with_class-one.ensures
    ∙ ap (λ one. with_class one c.t-item.result) c.loop-t.invariant
    ∙ ap (with_class (one_class c.args.first (take c.loop-t.t-index c.args.list.now))) c.t-item.is
    ∙ sym (fold_more with_class (Some c.args.first) c.args.list.now c.loop-t.t-index c.t-item.result c.loop-t-test.true)
