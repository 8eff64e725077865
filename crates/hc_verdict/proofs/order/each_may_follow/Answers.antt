use Rattle.std.proofs.Common.{◌∙◌, sym, refl}
use Rattle.std.proofs.lemmas.Bool.{false≢true}
use Rattle.hc_meaning.specs.Runs.Cut.{Transaction}
use Rattle.hc_verdict.specs.Orders.{MayFollow}
use Rattle.hc_verdict.proofs.OneMore.{each_of_all, is_there, one_more}
use Rattle.hc_verdict.proofs.order.each_may_follow.Goals as goal

pub returns-then-not-may_follow : goal.returns-then-not-may_follow
returns-then-not-may_follow c = (
  λ no. absurd (false≢true no),
  λ all. sym c.if-not-may_follow.true
      ∙ c.may_follow.ensures.1 (all c.later-item.result (is_there c.args.transactions.now c.loop-later.later-index c.later-item.result c.loop-later-test.true c.later-item.is)),
)

pub loop-later-preserved : goal.loop-later-preserved
loop-later-preserved c =
    one_more (λ (u : Transaction). MayFollow c.args.earlier.now u) c.args.transactions.now c.loop-later.later-index c.later-item.result c.loop-later-test.true c.later-item.is c.loop-later.invariant (c.may_follow.ensures.0 c.if-not-may_follow.false)

pub returns : goal.returns
returns c = (
  λ yes. each_of_all (λ (u : Transaction). MayFollow c.args.earlier.now u) c.args.transactions.now c.loop-later.later-index c.loop-later-test.false c.loop-later.invariant,
  λ all. refl,
)
