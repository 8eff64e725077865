use Rattle.std.proofs.Common.{◌∙◌}
use Rattle.hc_range.specs.Order.{higher}
use Rattle.hc_range.proofs.Ends.{Meet-iff_under}
use Rattle.hc_range.proofs.range.meets.Goals as goal

pub returns : goal.returns
returns c =
    Meet-iff_under c.args.a.now c.args.b.now _ _ (c.higher.ensures ∙ (λ i. higher (c.as_slice.ensures i) (c.as_slice-2.ensures i)))
    c.is_under_both.ensures
