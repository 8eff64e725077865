use Rattle.std.proofs.Common.{subst, sym, take, add-one, inl, inr, ℕ}
use Rattle.hc_range.specs.Ranges.{InAny, InRange}
use Rattle.hc_reads.proofs.Covered.{any_before, any_more, any_there}
use Rattle.hc_reads.proofs.ranges.log_of.Goals as goal

pub loop-range-preserved : goal.loop-range-preserved
loop-range-preserved c = λ key.
    let added = c.in_ok-add.ensures.added key in
    let before = c.loop-range.invariant key in (
      λ h. subst (λ (n : ℕ). InAny (take n c.args.ranges.now) key) (sym (add-one c.loop-range.range-index)) (elim (added.0 h) [
        | inl x ↦ any_before c.args.ranges.now c.loop-range.range-index key (before.0 x)
        | inr x ↦ any_there c.args.ranges.now c.loop-range.range-index c.range-item.result key c.loop-range-test.true (subst (λ r. InRange r key) c.range-item.is x)
      ]),
      λ h. added.1 (elim (any_more c.args.ranges.now c.loop-range.range-index c.range-item.result key c.loop-range-test.true
          (subst (λ (n : ℕ). InAny (take n c.args.ranges.now) key) (add-one c.loop-range.range-index) h)) [
            | inl x ↦ inl (before.1 x)
            | inr x ↦ inr (subst (λ r. InRange r key) (sym c.range-item.is) x)
          ]),
    )
