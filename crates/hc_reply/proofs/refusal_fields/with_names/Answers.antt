use Rattle.std.proofs.Common.{[]}
use Rattle.std.proofs.lemmas.Result.{err_from_is_err_and}
use Rattle.hc_transcript.specs.Fields.{Name, Last}
use Rattle.hc_reply.proofs.FieldByField.{first_fails, later_fails, next_found}
use Rattle.hc_reply.proofs.refusal_fields.with_names.Goals as goal

pub returns-in_err-first-clause-stop : goal.returns-in_err-first-clause-stop
returns-in_err-first-clause-stop c =
    let p = err_from_is_err_and c.from_residual.result c.from_residual.ensures.1 in
    rw (p.1, p.2)
    (first_fails Name [] (Last Name) c.args.bytes.now c.in_err-first.field-0.0 c.in_err-first.ensures.stop)

pub returns-in_err-second-clause-stop : goal.returns-in_err-second-clause-stop
returns-in_err-second-clause-stop c =
    let p = err_from_is_err_and c.from_residual-in_err-second.result c.from_residual-in_err-second.ensures.1 in
    rw (p.1, p.2)
    (later_fails Name [] (Last Name) c.args.bytes.now c.in_ok-first.after.now c.in_ok-first.first c.in_ok-first.ensures.found.0 c.in_ok-first.ensures.found.1 c.in_err-second.field-0.0 c.in_err-second.ensures.stop)

pub returns-clause-found : goal.returns-clause-found
returns-clause-found c = (
  (c.in_ok-first.first, c.in_ok-second.second),
  (c.in_ok-first.ensures.found.0, c.in_ok-second.ensures.found.0),
  c.names_of.ensures,
  next_found Name [] (Last Name) c.args.bytes.now c.in_ok-first.after.now c.in_ok-second.rest.now c.in_ok-first.first c.in_ok-second.second c.in_ok-first.ensures.found.1 c.in_ok-second.ensures.found.1,
)
