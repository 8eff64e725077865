use Rattle.std.proofs.Common.{◌≡◌, ◌∙◌, ◌-◌, ◌<◌, sym, refl, ℕ, Some}
use Rattle.std.specs.Prelude.{slice_get}
use Rattle.std.proofs.lemmas.Bool.{false≢true}
use Rattle.hc_transcript.specs.declared.reply.Ending.TheVariants.{Commit}
use Rattle.hc_meaning.specs.declared.transaction.Transaction.{Transaction}
use Rattle.hc_meaning.proofs.Loops.OneMore.{one_more, each_of_all, is_there}
use Rattle.hc_meaning.proofs.reference.commits.each_is_placed.Goals as goal

pub returns-then-not-is_placed : goal.returns-then-not-is_placed
returns-then-not-is_placed c = (
  λ no. absurd (false≢true no),
  λ all. sym c.if-not-is_placed.true
      ∙ c.is_placed.ensures.1 (λ k is. all k c.transaction-item.result (is_there c.args.transactions.now c.loop-transaction.transaction-index c.transaction-item.result c.loop-transaction-test.true c.transaction-item.is) is),
)

pub loop-transaction-preserved : goal.loop-transaction-preserved
loop-transaction-preserved c =
    one_more (λ (t : Transaction). (k : ℕ) → t.ending ≡ Commit k → (0 < k) × (slice_get c.args.history.now (k - 1) ≡ Some t)) c.args.transactions.now c.loop-transaction.transaction-index c.transaction-item.result c.loop-transaction-test.true c.transaction-item.is c.loop-transaction.invariant
    (c.is_placed.ensures.0 c.if-not-is_placed.false)

pub returns : goal.returns
returns c = (
  λ yes k t among is. each_of_all (λ (t : Transaction). (k : ℕ) → t.ending ≡ Commit k → (0 < k) × (slice_get c.args.history.now (k - 1) ≡ Some t)) c.args.transactions.now c.loop-transaction.transaction-index c.loop-transaction-test.false c.loop-transaction.invariant t among k is,
  λ all. refl,
)
