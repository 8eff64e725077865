use Rattle.std.proofs.Math.Facts.{to_z-of_z}
use Rattle.hc_top.proofs.Absent.{if_none}
use Rattle.hc_top.proofs.Statements.{number_at_front_fits, select_has_close, select_has_id, select_read}
use Rattle.hc_top.proofs.script.read_select.Goals as goal

pub returns-in_err-id-clause-none : goal.returns-in_err-id-clause-none
returns-in_err-id-clause-none c =
    if_none c.from_residual.result _ (λ statement rest. select_has_id c.args.bytes.now statement rest c.in_err-id.ensures.none)

pub returns-in_err-rest-clause-none : goal.returns-in_err-rest-clause-none
returns-in_err-rest-clause-none c =
    if_none c.from_residual-in_err-rest.result _ (λ statement rest.
    select_has_close c.args.bytes.now c.in_ok-id.after_id.now c.in_ok-id.id statement rest c.in_ok-id.ensures.some c.in_err-rest.ensures)

pub returns-clause-some : goal.returns-clause-some
returns-clause-some c =
    select_read c.args.bytes.now c.in_ok-id.after_id.now c.in_ok-rest.rest.now c.in_ok-id.id _
    (to_z-of_z (number_at_front_fits c.args.bytes.now c.in_ok-id.id c.in_ok-id.after_id.now c.in_ok-id.ensures.some))
    c.in_ok-id.ensures.some c.in_ok-rest.ensures
