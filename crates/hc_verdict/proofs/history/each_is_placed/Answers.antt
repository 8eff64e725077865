use Rattle.std.proofs.Common.{◌∙◌, sym, refl}
use Rattle.std.proofs.lemmas.Bool.{false≢true}
use Rattle.hc_meaning.specs.Runs.Cut.{Transaction}
use Rattle.hc_verdict.specs.Histories.{IsPlaced}
use Rattle.hc_verdict.proofs.OneMore.{each_of_all, is_there, one_more}
use Rattle.hc_verdict.proofs.history.each_is_placed.Goals as goal

pub is_placed-requires : goal.is_placed-requires
is_placed-requires c = c.requires c.transaction-item.result (is_there c.args.transactions.now c.loop-transaction.transaction-index c.transaction-item.result c.loop-transaction-test.true c.transaction-item.is)

pub returns-then-not-is_placed : goal.returns-then-not-is_placed
returns-then-not-is_placed c = (
  λ no. absurd (false≢true no),
  λ all. sym c.if-not-is_placed.true
      ∙ c.is_placed.ensures.1 (all c.transaction-item.result (is_there c.args.transactions.now c.loop-transaction.transaction-index c.transaction-item.result c.loop-transaction-test.true c.transaction-item.is)),
)

pub loop-transaction-preserved : goal.loop-transaction-preserved
loop-transaction-preserved c =
    one_more (λ (t : Transaction). IsPlaced c.args.history.now t) c.args.transactions.now c.loop-transaction.transaction-index c.transaction-item.result c.loop-transaction-test.true c.transaction-item.is c.loop-transaction.invariant
    (c.is_placed.ensures.0 c.if-not-is_placed.false)

pub returns : goal.returns
returns c = (
  λ yes. each_of_all (λ (t : Transaction). IsPlaced c.args.history.now t) c.args.transactions.now c.loop-transaction.transaction-index c.loop-transaction-test.false c.loop-transaction.invariant,
  λ all. refl,
)
