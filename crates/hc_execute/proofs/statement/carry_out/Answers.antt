use Rattle.std.proofs.Common.{◌∙◌, sym, ap, subst, ℕ, List, Option, ℤ}
use Rattle.hc_core.specs.declared.cells.Write.{Write}
use Rattle.hc_txn.specs.Reading.{only}
use Rattle.hc_txn.specs.Transactions.{LogsKeyToo, LogsWithin, Transaction}
use Rattle.hc_table.specs.Rows.{row_key}
use Rattle.hc_table.specs.Statements.{id_of}
use Rattle.hc_execute.specs.Done.{IsThere, own_with}
use Rattle.hc_execute.proofs.Doing.{key_chain, key_within, on_err, reads_chain, still_agrees, within_chain}
use Rattle.hc_execute.proofs.statement.carry_out.Goals as goal

pub returns-in_err-answer-clause-left : goal.returns-in_err-answer-clause-left
returns-in_err-answer-clause-left g c = on_err c.from_residual-in_err-answer.result (
  ap (λ (t : Transaction). t.own) c.in_ok-there.ensures.same,
  subst (λ (key : List ℕ). LogsWithin (only key) c.args.txn.now.log c.look.new.txn.log) (c.as_slice.ensures ∙ c.in_ok-key.ensures)
      (key_within c.as_slice.result.now c.args.txn.now.log c.look.new.txn.log c.in_ok-there.ensures.log),
)

pub returns-in_err-put-clause-left : goal.returns-in_err-put-clause-left
returns-in_err-put-clause-left g c = on_err c.from_residual-in_err-put.result (
  c.in_err-put.ensures.no_memory ∙ ap (λ (t : Transaction). t.own) c.in_ok-there.ensures.same,
  subst (λ (key : List ℕ). LogsWithin (only key) c.args.txn.now.log c.put.new.txn.log) (c.as_slice.ensures ∙ c.in_ok-key.ensures)
      (within_chain c.as_slice.result.now c.args.txn.now.log c.look.new.txn.log c.put.new.txn.log
      (key_within c.as_slice.result.now c.args.txn.now.log c.look.new.txn.log c.in_ok-there.ensures.log)
      (subst (λ (key : List ℕ). LogsWithin (only key) c.look.new.txn.log c.put.new.txn.log) (c.as_slice-2.ensures ∙ sym c.as_slice.ensures) c.in_err-put.ensures.log)),
)

pub returns-in_err-put-clause-reads : goal.returns-in_err-put-clause-reads
returns-in_err-put-clause-reads g c =
    reads_chain (g.D.Desk.conn c.args.desk.now) (g.D.Desk.conn c.look.new.desk) (g.D.Desk.account c.args.desk.now) (g.D.Desk.account c.look.new.desk) (g.D.Desk.account c.put.new.desk)
    c.look.ensures.on.0 c.look.ensures.reads c.put.ensures.reads

pub returns-clause-reads : goal.returns-clause-reads
returns-clause-reads g c =
    reads_chain (g.D.Desk.conn c.args.desk.now) (g.D.Desk.conn c.look.new.desk) (g.D.Desk.account c.args.desk.now) (g.D.Desk.account c.look.new.desk) (g.D.Desk.account c.put.new.desk)
    c.look.ensures.on.0 c.look.ensures.reads c.put.ensures.reads

pub returns-clause-done : goal.returns-clause-done
returns-clause-done g c = record {
  there = c.in_ok-there.there;
  is_there = λ store agrees. subst (λ (key : List ℕ). IsThere (g.D.Desk.account c.look.new.desk) c.args.txn.now.own key c.in_ok-there.there) (c.as_slice.ensures ∙ c.in_ok-key.ensures) c.in_ok-there.ensures.found store
      (still_agrees (g.D.Desk.conn c.look.new.desk) (g.D.Desk.account c.look.new.desk) (g.D.Desk.account c.put.new.desk) c.look.new.txn c.look.ensures.of c.put.ensures.reads store agrees);
  answered = c.in_ok-answer.ensures;
  own = c.in_ok-put.ensures.own
      ∙ ap (λ (own : List Write). own_with c.as_slice-2.result.now c.put_at.result own) (ap (λ (t : Transaction). t.own) c.in_ok-there.ensures.same)
      ∙ ap (λ (key : List ℕ). own_with key c.put_at.result c.args.txn.now.own) (c.as_slice-2.ensures ∙ c.in_ok-key.ensures)
      ∙ ap (λ (put : Option ℤ). own_with (row_key (id_of c.args.action)) put c.args.txn.now.own) c.put_at.ensures;
  log = subst (λ (key : List ℕ). LogsKeyToo key c.args.txn.now.log c.put.new.txn.log) (c.as_slice.ensures ∙ c.in_ok-key.ensures)
      (key_chain c.as_slice.result.now c.args.txn.now.log c.look.new.txn.log c.put.new.txn.log c.in_ok-there.ensures.log
      (subst (λ (key : List ℕ). LogsWithin (only key) c.look.new.txn.log c.put.new.txn.log) (c.as_slice-2.ensures ∙ sym c.as_slice.ensures) c.in_ok-put.ensures.log));
}
