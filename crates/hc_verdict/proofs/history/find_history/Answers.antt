use Rattle.std.proofs.Common.{◌≡◌, ◌∙◌, ◌+◌, ap, sym, subst, arith, List, length}
use Rattle.std.proofs.lemmas.List.{length_push}
use Rattle.std.proofs.lemmas.Bool.{false≢true}
use Rattle.hc_base.specs.Lookup.{Among}
use Rattle.hc_transcript.specs.declared.reply.Ending.TheVariants.{Commit}
use Rattle.hc_meaning.specs.Runs.Cut.{Transaction}
use Rattle.hc_verdict.specs.Histories.{IsPlaced, IsToldByName}
use Rattle.hc_verdict.proofs.Histories.{IsPrinted, all_printed, left_out, printed_push, told_in}
use Rattle.hc_verdict.proofs.history.find_history.Goals as goal

pub returns-in_default : goal.returns-in_default
returns-in_default c = λ history is_history.
    left_out c.args.transactions.now history c.loop-k.k c.last_commit-k-end.result c.loop-k-test.true (c.last_commit-k-end.ensures.printed (omega (arith, c.loop-k-test.true))) c.in_default.ensures is_history

pub loop-k-preserved : goal.loop-k-preserved
loop-k-preserved c = record {
  counted = ap length c.in_ok-push.ensures.items ∙ length_push c.loop-k.history.items c.in-Some.transaction ∙ ap (λ n. n + 1) c.loop-k.invariant.counted;
  printed = subst (λ (front : List Transaction). IsPrinted c.args.transactions.now front) (sym c.in_ok-push.ensures.items)
      (printed_push c.args.transactions.now c.loop-k.history.items c.in-Some.transaction c.loop-k.invariant.printed c.in-Some.ensures.0 (c.in-Some.ensures.1 ∙ ap (λ n. Commit (n + 1)) (sym c.loop-k.invariant.counted)));
}

pub each_is_placed-requires : goal.each_is_placed-requires
each_is_placed-requires c =
    subst (λ (h : List Transaction). (t : Transaction) → Among t c.args.transactions.now → IsToldByName h t) (sym c.as_slice.ensures.value)
    (told_in c.args.transactions.now c.loop-k.history.items c.requires c.loop-k.invariant.printed)

pub returns-then-not-each_is_placed : goal.returns-then-not-each_is_placed
returns-then-not-each_is_placed c = λ history is_history.
    let same : history ≡ c.loop-k.history.items =
    all_printed c.args.transactions.now c.loop-k.history.items history c.loop-k.invariant.printed
    (λ k t among is. omega (arith, c.last_commit-k-end.ensures.greatest k t among is, c.loop-k.invariant.counted, c.loop-k-test.false)) is_history in
    let placed : (t : Transaction) → Among t c.args.transactions.now → IsPlaced c.as_slice.result.now t =
    λ t among k is. subst (λ (h : List Transaction). IsPlaced h t) (same ∙ sym c.as_slice.ensures.value) (λ j at. is_history.placed j t among at) k is in
    false≢true (sym c.if-not-each_is_placed.true ∙ c.each_is_placed.ensures.1 placed)

pub returns : goal.returns
returns c = record {
  printed = c.loop-k.invariant.printed;
  placed = λ k t among is. subst (λ (h : List Transaction). IsPlaced h t) c.as_slice.ensures.value (c.each_is_placed.ensures.0 c.if-not-each_is_placed.false t among) k is;
}
