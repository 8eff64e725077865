use Rattle.std.proofs.Common.{◌≡◌, ◌∙◌, ap, sym, arith, ℕ, ◌≤◌}
use Rattle.hc_transcript.specs.declared.reply.Ending.TheVariants.{Commit}
use Rattle.hc_meaning.specs.Runs.Cut.{Transaction}
use Rattle.hc_verdict.proofs.OneMore.{one_more, each_of_all, is_there}
use Rattle.hc_verdict.proofs.history.last_commit.Goals as goal
use Rattle.hc_verdict.proofs.history.last_commit.Goals.{then-last-k, else-last-k}

pub loop-transaction-preserved : goal.loop-transaction-preserved
loop-transaction-preserved c =
    let grows : c.loop-transaction.last ≤ c.if-last-k.last = elim c.if-last-k.branch [ then-last-k w ↦ omega (arith, w.if-last-k.true, w.last-is) | else-last-k w ↦ omega (arith, w.last-is) ] in
    let counts : c.commit_number-k.result ≤ c.if-last-k.last = elim c.if-last-k.branch [ then-last-k w ↦ omega (arith, w.last-is) | else-last-k w ↦ omega (arith, w.if-last-k.false, w.last-is) ] in
    record {
      greatest = one_more (λ (t : Transaction). (k : ℕ) → t.ending ≡ Commit k → k ≤ c.if-last-k.last) c.args.transactions.now c.loop-transaction.transaction-index c.transaction-item.result c.loop-transaction-test.true c.transaction-item.is
          (λ j d inside k is. omega (arith, grows, c.loop-transaction.invariant.greatest j d inside k is))
          (λ k is. omega (arith, counts, c.commit_number-k.ensures.of_a_commit k (c.ending.ensures ∙ is)));
      printed = elim c.if-last-k.branch [
        | then-last-k w ↦ λ some. (
          c.transaction-item.result,
          is_there c.args.transactions.now c.loop-transaction.transaction-index c.transaction-item.result c.loop-transaction-test.true c.transaction-item.is,
          sym c.ending.ensures ∙ c.commit_number-k.ensures.of_another (omega (arith, w.if-last-k.true)) ∙ ap Commit (sym w.last-is),
        )
        | else-last-k w ↦ λ some. let p = c.loop-transaction.invariant.printed (omega (arith, some, w.last-is)) in (p.0, p.1, p.2 ∙ ap Commit (sym w.last-is))
      ];
    }

pub returns-clause-greatest : goal.returns-clause-greatest
returns-clause-greatest c = λ k t among is.
    each_of_all (λ (t : Transaction). (k : ℕ) → t.ending ≡ Commit k → k ≤ c.loop-transaction.last) c.args.transactions.now c.loop-transaction.transaction-index c.loop-transaction-test.false c.loop-transaction.invariant.greatest t among k is
