use Rattle.std.proofs.Common.{refl}
use Rattle.hc_page.specs.Drafts.{entry_of}
use Rattle.hc_test_pages.proofs.SmallPages.{leaf_halves}
use Rattle.hc_test_pages.proofs.plans.halved.Goals as goal

pub returns-clause-left : goal.returns-clause-left
returns-clause-left c =
    let full = c.if-not-is_full.ensures refl in
    (leaf_halves full.0 (entry_of c.args.new.now) _ c.halve.new.left.words c.halve.new.right.words (c.halve.ensures.halved full.0 full.1)).0

pub returns-clause-right : goal.returns-clause-right
returns-clause-right c =
    let full = c.if-not-is_full.ensures refl in
    (leaf_halves full.0 (entry_of c.args.new.now) _ c.halve.new.left.words c.halve.new.right.words (c.halve.ensures.halved full.0 full.1)).1
