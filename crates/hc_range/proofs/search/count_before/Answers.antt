use Rattle.std.proofs.Common.{◌∙◌, sym, ap, arith}
use Rattle.hc_range.specs.Ranges.{is_end_below}
use Rattle.hc_range.specs.declared.range.Range.{Range}
use Rattle.hc_range.proofs.Searched.{before_partitioned}
use Rattle.hc_range.proofs.search.count_before.Goals as goal

-- where the last range ends below the key, each does
pub returns-in-Some-clause-before : goal.returns-in-Some-clause-before
returns-in-Some-clause-before c = λ k d low high.
    let last = c.in-Some.ensures.item.3.1 in
    before_partitioned c.args.key.now c.args.ranges.now c.requires k _ d (omega arith) (omega arith)
    (ap (λ (range : Range). is_end_below range.hi c.args.key.now) (sym (last d)) ∙ sym c.is_end_below.ensures ∙ c.if-is_end_below.true)
