use Rattle.std.proofs.Math.Facts.{to_z-of_z}
use Rattle.hc_top.proofs.Absent.{if_none}
use Rattle.hc_top.proofs.Statements.{insert_has_close, insert_has_comma, insert_has_id, insert_has_value, insert_read, number_at_front_fits}
use Rattle.hc_top.proofs.script.read_insert.Goals as goal

pub returns-in_err-id-clause-none : goal.returns-in_err-id-clause-none
returns-in_err-id-clause-none c =
    if_none c.from_residual.result _ (λ statement rest. insert_has_id c.args.bytes.now statement rest c.in_err-id.ensures.none)

pub returns-in_err-skip_text-clause-none : goal.returns-in_err-skip_text-clause-none
returns-in_err-skip_text-clause-none c =
    if_none c.from_residual-in_err-skip_text.result _ (λ statement rest.
    insert_has_comma c.args.bytes.now c.in_ok-id.after_id.now c.in_ok-id.id statement rest c.in_ok-id.ensures.some c.in_err-skip_text.ensures)

pub returns-in_err-v-clause-none : goal.returns-in_err-v-clause-none
returns-in_err-v-clause-none c =
    if_none c.from_residual-in_err-v.result _ (λ statement rest.
    insert_has_value c.args.bytes.now c.in_ok-id.after_id.now c.in_ok-skip_text.field-0.now c.in_ok-id.id statement rest c.in_ok-id.ensures.some c.in_ok-skip_text.ensures c.in_err-v.ensures.none)

pub returns-in_err-rest-clause-none : goal.returns-in_err-rest-clause-none
returns-in_err-rest-clause-none c =
    if_none c.from_residual-in_err-rest.result _ (λ statement rest.
    insert_has_close c.args.bytes.now c.in_ok-id.after_id.now c.in_ok-skip_text.field-0.now c.in_ok-v.after_v.now c.in_ok-id.id c.in_ok-v.v statement rest c.in_ok-id.ensures.some c.in_ok-skip_text.ensures c.in_ok-v.ensures.some c.in_err-rest.ensures)

pub returns-clause-some : goal.returns-clause-some
returns-clause-some c =
    insert_read c.args.bytes.now c.in_ok-id.after_id.now c.in_ok-skip_text.field-0.now c.in_ok-v.after_v.now c.in_ok-rest.rest.now c.in_ok-id.id c.in_ok-v.v _ _
    (to_z-of_z (number_at_front_fits c.args.bytes.now c.in_ok-id.id c.in_ok-id.after_id.now c.in_ok-id.ensures.some))
    (to_z-of_z (number_at_front_fits c.in_ok-skip_text.field-0.now c.in_ok-v.v c.in_ok-v.after_v.now c.in_ok-v.ensures.some))
    c.in_ok-id.ensures.some c.in_ok-skip_text.ensures c.in_ok-v.ensures.some c.in_ok-rest.ensures
