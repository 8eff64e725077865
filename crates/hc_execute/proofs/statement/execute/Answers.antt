use Rattle.std.proofs.Common.{◌∙◌, sym, Result, Ok, Err, IfOk}
use Rattle.hc_execute.proofs.Meaning.{ran}
use Rattle.hc_execute.proofs.statement.execute.Goals as goal

all_ok : {T E : Type 0} {P Q : T → Type 0} (r : Result T E) → ((t : T) → P t → Q t) → IfOk r P → IfOk r Q
all_ok (Ok t) each p = each t p
all_ok (Err e) each p = tt

pub returns-in-Some-clause-ran : goal.returns-in-Some-clause-ran
returns-in-Some-clause-ran g c =
    all_ok c.carry_out.result
    (λ answer. ran c.byte_order_is_value_order.ensures c.keys_of_different_lists_differ.ensures c.no_encoding_begins_another.ensures c.args.statement.now c.in-Some.action (sym c.in-Some.is ∙ c.action_of.ensures)
    (g.D.Desk.account c.carry_out.new.desk) c.args.txn.now c.carry_out.new.txn answer)
    c.carry_out.ensures.done
