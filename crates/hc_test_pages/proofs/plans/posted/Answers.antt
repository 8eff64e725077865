use Rattle.std.proofs.Common.{refl}
use Rattle.hc_test_pages.proofs.SmallPages.{inner_posted}
use Rattle.hc_test_pages.proofs.plans.posted.Goals as goal

pub returns-then-post : goal.returns-then-post
returns-then-post c =
    let parent = c.if-not-can_post.ensures refl in
    inner_posted parent.0 c.args.key.now c.args.child c.post.new.out.words (c.if-post.ensures.posted parent.0 parent.1 refl)
