use Rattle.std.proofs.Common.{◌∙◌, sym, refl}
use Rattle.std.proofs.lemmas.Bool.{false≢true}
use Rattle.hc_meaning.specs.RightOutput.{IsReadUnlessCommitted}
use Rattle.hc_meaning.specs.declared.transaction.Transaction.{Transaction}
use Rattle.hc_meaning.proofs.Loops.OneMore.{one_more, each_of_all, is_there}
use Rattle.hc_meaning.proofs.reference.answers.others_are_read.Goals as goal

pub returns-then-not-branch : goal.returns-then-not-branch
returns-then-not-branch c = (
  λ no. absurd (false≢true no),
  λ all. sym c.if-not-branch.true
      ∙ c.in_ok-is_read.ensures.1 (all c.transaction-item.result (is_there c.args.transactions.now c.loop-transaction.transaction-index c.transaction-item.result c.loop-transaction-test.true c.transaction-item.is)),
)

pub loop-transaction-preserved : goal.loop-transaction-preserved
loop-transaction-preserved c =
    one_more (λ (t : Transaction). IsReadUnlessCommitted c.args.history.now t t.ending) c.args.transactions.now c.loop-transaction.transaction-index c.transaction-item.result c.loop-transaction-test.true c.transaction-item.is c.loop-transaction.invariant
    (c.in_ok-is_read.ensures.0 c.if-not-branch.false)

pub returns : goal.returns
returns c = (
  λ yes. each_of_all (λ (t : Transaction). IsReadUnlessCommitted c.args.history.now t t.ending) c.args.transactions.now c.loop-transaction.transaction-index c.loop-transaction-test.false c.loop-transaction.invariant,
  λ all. refl,
)
