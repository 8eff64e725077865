use Rattle.std.proofs.Common.{◌≡◌, ◌∙◌, ◌-◌, ◌+◌, ◌<◌, ap, sym, subst, arith, ℕ, List, length, Some}
use Rattle.std.specs.Prelude.{Contains, slice_get}
use Rattle.std.proofs.lemmas.List.{length_push}
use Rattle.std.proofs.lemmas.Bool.{false≢true}
use Rattle.hc_transcript.specs.declared.reply.Ending.TheVariants.{Commit}
use Rattle.hc_meaning.specs.declared.transaction.Transaction.{Transaction}
use Rattle.hc_meaning.proofs.Loops.OneHistory.{IsPrinted, all-printed, left-out, printed-push}
use Rattle.hc_meaning.proofs.reference.commits.history.Goals as goal

pub returns-in_default : goal.returns-in_default
returns-in_default c = λ history is_history.
    left-out c.args.transactions.now history c.loop-k.k c.last_commit-k-end.result c.loop-k-test.true (c.last_commit-k-end.ensures.printed (omega (arith, c.loop-k-test.true))) c.in_default.ensures is_history

pub loop-k-preserved : goal.loop-k-preserved
loop-k-preserved c = record {
  counted = ap length c.in_ok-push.ensures.items ∙ length_push c.loop-k.history.items c.in-Some.transaction ∙ ap (λ n. n + 1) c.loop-k.invariant.counted;
  printed = subst (λ (front : List Transaction). IsPrinted c.args.transactions.now front) (sym c.in_ok-push.ensures.items)
      (printed-push c.args.transactions.now c.loop-k.history.items c.in-Some.transaction c.loop-k.invariant.printed c.in-Some.ensures.0 (c.in-Some.ensures.1 ∙ ap (λ n. Commit (n + 1)) (sym c.loop-k.invariant.counted)));
}

pub returns-then-not-each_is_placed : goal.returns-then-not-each_is_placed
returns-then-not-each_is_placed c = λ history is_history.
    let same : history ≡ c.loop-k.history.items =
    all-printed c.args.transactions.now c.loop-k.history.items history c.loop-k.invariant.printed
    (λ k t among is. omega (arith, c.last_commit-k-end.ensures.greatest k t among is, c.loop-k.invariant.counted, c.loop-k-test.false)) is_history in
    let placed : (k : ℕ) (t : Transaction) → Contains c.args.transactions.now t → t.ending ≡ Commit k → (0 < k) × (slice_get c.as_slice.result.now (k - 1) ≡ Some t) =
    λ k t among is. subst (λ (h : List Transaction). (0 < k) × (slice_get h (k - 1) ≡ Some t)) (same ∙ sym c.as_slice.ensures.value) (is_history.placed k t among is) in
    false≢true (sym c.if-not-each_is_placed.true ∙ c.each_is_placed.ensures.1 placed)

pub returns : goal.returns
returns c = record {
  printed = c.loop-k.invariant.printed;
  placed = λ k t among is. subst (λ (h : List Transaction). (0 < k) × (slice_get h (k - 1) ≡ Some t)) c.as_slice.ensures.value (c.each_is_placed.ensures.0 c.if-not-each_is_placed.false k t among is);
}
