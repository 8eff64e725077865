use Rattle.hc_top.proofs.Absent.{if_none}
use Rattle.hc_top.proofs.Statements.{statement_has_head}
use Rattle.hc_top.proofs.script.read_statement.Goals as goal

pub returns-in-Some-clause-none : goal.returns-in-Some-clause-none
returns-in-Some-clause-none c = rw c.in-Some.ensures c.read_insert.ensures.none

pub returns-in_err-tail-clause-none : goal.returns-in_err-tail-clause-none
returns-in_err-tail-clause-none c =
    if_none c.from_residual.result _ (λ statement rest. statement_has_head c.args.bytes.now statement rest c.in_default.ensures c.in_err-tail.ensures)

pub returns-clause-none : goal.returns-clause-none
returns-clause-none c = rw c.in_ok-tail.ensures c.read_select.ensures.none
