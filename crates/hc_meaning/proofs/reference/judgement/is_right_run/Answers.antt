use Rattle.std.proofs.Common.{◌≡◌, ◌∙◌, ap, sym, subst, List, Some}
use Rattle.std.proofs.lemmas.Bool.{false≢true}
use Rattle.hc_meaning.specs.declared.transaction.Transaction.{Transaction}
use Rattle.hc_meaning.specs.Transactions.{cut_all}
use Rattle.hc_meaning.specs.History.{IsHistory}
use Rattle.hc_meaning.proofs.Loops.Judged.{judged}
use Rattle.hc_meaning.proofs.reference.judgement.is_right_run.Goals as goal

pub returns-then-not-ascend : goal.returns-then-not-ascend
returns-then-not-ascend c = (λ no. absurd (false≢true no), λ right. sym c.if-not-ascend.true ∙ c.ascend.ensures.1 right.ascending)

pub returns : goal.returns
returns c =
    let cut : Some c.as_slice-transactions.result.now ≡ cut_all c.args.scripts.now c.args.transcripts.now = ap Some c.as_slice-transactions.ensures.value ∙ rw c.in-Some.is at c.in_ok-found.ensures in
    let is_history = subst (λ (h : List Transaction). IsHistory c.as_slice-transactions.result.now h) (sym c.as_slice.ensures.value) (rw c.in-Some-2.is at c.in_ok-committed.ensures) in
    judged c.args.scripts.now c.args.transcripts.now c.as_slice-transactions.result.now c.as_slice.result.now cut is_history (c.ascend.ensures.0 c.if-not-ascend.false) c.is_right_history.result c.is_right_history.ensures
