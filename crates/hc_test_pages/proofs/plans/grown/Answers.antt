use Rattle.std.proofs.Common.{refl, sym, true≢false, arith}
use Rattle.std.proofs.Math.Nat.{lt_of_not-le}
use Rattle.hc_test_pages.proofs.SmallPages.{inner_grown}
use Rattle.hc_test_pages.proofs.plans.grown.Goals as goal

pub returns-clause-left : goal.returns-clause-left
returns-clause-left c =
    let parent = c.if-not-can_post.ensures refl in
    (inner_grown parent.0 c.args.key.now c.args.child _ _ c.grow_root.new.left.words c.grow_root.new.right.words c.grow_root.new.out.words
    (c.grow_root.ensures.grown parent.0 (record {
      full = record { parent = parent.1; over = lt_of_not-le (λ fits. true≢false (sym ((c.if-post.ensures.fits parent.0 parent.1).1 fits))) };
      level = omega (arith, c.if-level-eq255.false, c.level.ensures.level parent.0 parent.1.page, parent.1.page.content.level);
    }))).0

pub returns-clause-right : goal.returns-clause-right
returns-clause-right c =
    let parent = c.if-not-can_post.ensures refl in
    (inner_grown parent.0 c.args.key.now c.args.child _ _ c.grow_root.new.left.words c.grow_root.new.right.words c.grow_root.new.out.words
    (c.grow_root.ensures.grown parent.0 (record {
      full = record { parent = parent.1; over = lt_of_not-le (λ fits. true≢false (sym ((c.if-post.ensures.fits parent.0 parent.1).1 fits))) };
      level = omega (arith, c.if-level-eq255.false, c.level.ensures.level parent.0 parent.1.page, parent.1.page.content.level);
    }))).1

pub returns-clause-top : goal.returns-clause-top
returns-clause-top c =
    let parent = c.if-not-can_post.ensures refl in
    (inner_grown parent.0 c.args.key.now c.args.child _ _ c.grow_root.new.left.words c.grow_root.new.right.words c.grow_root.new.out.words
    (c.grow_root.ensures.grown parent.0 (record {
      full = record { parent = parent.1; over = lt_of_not-le (λ fits. true≢false (sym ((c.if-post.ensures.fits parent.0 parent.1).1 fits))) };
      level = omega (arith, c.if-level-eq255.false, c.level.ensures.level parent.0 parent.1.page, parent.1.page.content.level);
    }))).2
