use Rattle.std.proofs.Common.{◌∙◌, sym, refl}
use Rattle.std.proofs.lemmas.Bool.{false≢true}
use Rattle.hc_base.specs.Lookup.{Among}
use Rattle.hc_meaning.specs.Runs.Cut.{Transaction}
use Rattle.hc_verdict.specs.Orders.{MayFollow}
use Rattle.hc_verdict.proofs.OneMore.{each_of_all, is_there, one_more}
use Rattle.hc_verdict.proofs.order.numbers_rise.Goals as goal

pub returns-then-not-each_may_follow : goal.returns-then-not-each_may_follow
returns-then-not-each_may_follow c = (
  λ no. absurd (false≢true no),
  λ all. sym c.if-not-each_may_follow.true
      ∙ c.each_may_follow.ensures.1 (λ u u_there. all c.transaction-item.result u (is_there c.args.transactions.now c.loop-transaction.transaction-index c.transaction-item.result c.loop-transaction-test.true c.transaction-item.is) u_there),
)

pub loop-transaction-preserved : goal.loop-transaction-preserved
loop-transaction-preserved c =
    one_more (λ (t : Transaction). (u : Transaction) → Among u c.args.transactions.now → MayFollow t u) c.args.transactions.now c.loop-transaction.transaction-index c.transaction-item.result c.loop-transaction-test.true c.transaction-item.is c.loop-transaction.invariant
    (c.each_may_follow.ensures.0 c.if-not-each_may_follow.false)

pub returns : goal.returns
returns c = (
  λ yes t u t_there u_there. each_of_all (λ (t : Transaction). (u : Transaction) → Among u c.args.transactions.now → MayFollow t u) c.args.transactions.now c.loop-transaction.transaction-index c.loop-transaction-test.false c.loop-transaction.invariant t t_there u u_there,
  λ all. refl,
)
