use Rattle.std.proofs.Common.{◌≤◌, ◌∙◌, ap, sym, arith, refl}
use Rattle.std.proofs.lemmas.Bool.{false≢true}
use Rattle.hc_meaning.specs.Runs.Cut.{Transaction}
use Rattle.hc_transcript.specs.Text.{ending_number}
use Rattle.hc_verdict.specs.Orders.{CountsSetup}
use Rattle.hc_verdict.proofs.OneMore.{each_of_all, is_there, one_more}
use Rattle.hc_verdict.proofs.order.others_count_setup.Goals as goal
use Rattle.hc_verdict.proofs.order.others_count_setup.Goals.{else-conn-ne0-via-then-conn-ne0+else-number-setup, else-conn-ne0-via-else-conn-ne0}

pub returns-then-number-setup : goal.returns-then-number-setup
returns-then-number-setup c = (
  λ no. absurd (false≢true no),
  λ all.
      let there = is_there c.args.transactions.now c.loop-transaction.transaction-index c.transaction-item.result c.loop-transaction-test.true c.transaction-item.is in
      let counts : c.args.setup ≤ ending_number c.transaction-item.result.ending = all c.transaction-item.result there (λ zero. c.if-conn-ne0.true (c.conn.ensures ∙ zero)) in
      absurd (omega (arith, counts, c.if-number-setup.true, c.number.ensures, ap ending_number c.ending.ensures)),
)

pub loop-transaction-preserved : goal.loop-transaction-preserved
loop-transaction-preserved c =
    let counts : CountsSetup c.args.setup c.transaction-item.result = elim c.else-conn-ne0.branch [
      | else-conn-ne0-via-then-conn-ne0+else-number-setup w ↦ λ other. omega (arith, w.if-number-setup.false, w.number.ensures, ap ending_number w.ending.ensures)
      | else-conn-ne0-via-else-conn-ne0 w ↦ λ other. absurd (other (sym c.conn.ensures ∙ w.if-conn-ne0.false))
    ] in
    one_more (λ (t : Transaction). CountsSetup c.args.setup t) c.args.transactions.now c.loop-transaction.transaction-index c.transaction-item.result c.loop-transaction-test.true c.transaction-item.is c.loop-transaction.invariant counts

pub returns : goal.returns
returns c = (
  λ yes. each_of_all (λ (t : Transaction). CountsSetup c.args.setup t) c.args.transactions.now c.loop-transaction.transaction-index c.loop-transaction-test.false c.loop-transaction.invariant,
  λ all. refl,
)
