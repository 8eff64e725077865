use Rattle.std.proofs.Common.{◌≢◌, ◌≤◌, ◌∙◌, ap, sym, arith, refl}
use Rattle.hc_meaning.specs.declared.transaction.Transaction.{Transaction}
use Rattle.hc_transcript.specs.Text.{ending_number}
use Rattle.hc_meaning.proofs.Loops.OneMore.{one_more, each_of_all}
use Rattle.hc_meaning.proofs.reference.order.others_count_setup.Goals as goal
use Rattle.hc_meaning.proofs.reference.order.others_count_setup.Goals.{else-conn-ne0-via-then-conn-ne0+else-number-setup, else-conn-ne0-via-else-conn-ne0}

pub loop-transaction-preserved : goal.loop-transaction-preserved
loop-transaction-preserved c =
    let counts : c.transaction-item.result.conn ≢ 0 → c.args.setup ≤ ending_number c.transaction-item.result.ending = elim c.else-conn-ne0.branch [
      | else-conn-ne0-via-then-conn-ne0+else-number-setup w ↦ λ other. omega (arith, w.if-number-setup.false, w.number.ensures, ap ending_number w.ending.ensures)
      | else-conn-ne0-via-else-conn-ne0 w ↦ λ other. absurd (other (sym c.conn.ensures ∙ w.if-conn-ne0.false))
    ] in
    one_more (λ (t : Transaction). t.conn ≢ 0 → c.args.setup ≤ ending_number t.ending) c.args.transactions.now c.loop-transaction.transaction-index c.transaction-item.result c.loop-transaction-test.true c.transaction-item.is c.loop-transaction.invariant counts

pub returns : goal.returns
returns c = (
  λ yes. each_of_all (λ (t : Transaction). t.conn ≢ 0 → c.args.setup ≤ ending_number t.ending) c.args.transactions.now c.loop-transaction.transaction-index c.loop-transaction-test.false c.loop-transaction.invariant,
  λ all. refl,
)
