use Rattle.std.proofs.Common.{⊎_elim, subst, sym, take, add-one, ◌∙◌}
use Rattle.hc_range.specs.Ranges.{InAny, InRange}
use Rattle.hc_reads.proofs.Covered.{any_at, any_more}
use Rattle.hc_reads.proofs.included.includes_all.Goals as goal

-- a range is not included, and so neither are all
pub returns-then-not-includes : goal.returns-then-not-includes
returns-then-not-includes c = (
  λ yes. cc,
  λ all. sym c.if-not-includes.true ∙ (c.includes.ensures.1 (λ key there. all key
      (any_at c.args.ranges.now c.loop-range.range-index c.range-item.result key c.loop-range-test.true (subst (λ r. InRange r key) c.range-item.is there)))),
)

-- one more is included
pub loop-range-preserved : goal.loop-range-preserved
loop-range-preserved c = λ key there.
    ⊎_elim (λ before. c.loop-range.invariant key before)
    (λ here. c.includes.ensures.0 c.if-not-includes.false key (subst (λ r. InRange r key) (sym c.range-item.is) here))
    (any_more c.args.ranges.now c.loop-range.range-index c.range-item.result key c.loop-range-test.true
    (subst (λ n. InAny (take n c.args.ranges.now) key) (add-one c.loop-range.range-index) there))
