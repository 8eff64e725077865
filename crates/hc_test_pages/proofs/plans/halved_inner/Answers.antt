use Rattle.std.proofs.Common.{refl, sym, true≢false}
use Rattle.std.proofs.Math.Nat.{lt_of_not-le}
use Rattle.hc_test_pages.proofs.SmallPages.{inner_halves}
use Rattle.hc_test_pages.proofs.plans.halved_inner.Goals as goal

pub returns-clause-left : goal.returns-clause-left
returns-clause-left c =
    let parent = c.if-not-can_post.ensures refl in
    (inner_halves parent.0 c.args.key.now c.args.child _ c.halve_inner.new.left.words c.halve_inner.new.right.words
    (c.halve_inner.ensures.halved parent.0 (record { parent = parent.1; over = lt_of_not-le (λ fits. true≢false (sym ((c.if-post.ensures.fits parent.0 parent.1).1 fits))) }))).0

pub returns-clause-right : goal.returns-clause-right
returns-clause-right c =
    let parent = c.if-not-can_post.ensures refl in
    (inner_halves parent.0 c.args.key.now c.args.child _ c.halve_inner.new.left.words c.halve_inner.new.right.words
    (c.halve_inner.ensures.halved parent.0 (record { parent = parent.1; over = lt_of_not-le (λ fits. true≢false (sym ((c.if-post.ensures.fits parent.0 parent.1).1 fits))) }))).1
