use Rattle.std.proofs.Common.{ap, ◌∙◌}
use Rattle.std.proofs.lemmas.Result.{err_from_is_err_and}
use Rattle.hc_key.proofs.Parts.{text_fault, text_found}
use Rattle.hc_key.proofs.reader.text_after.Goals as goal

pub returns-in_err-bytes-clause-fault : goal.returns-in_err-bytes-clause-fault
returns-in_err-bytes-clause-fault c =
    let p = err_from_is_err_and c.from_residual.result c.from_residual.ensures.1 in
    rw (p.1, p.2) (text_fault c.args.rest.now c.args.place c.in_err-bytes.field-0.0 c.in_err-bytes.ensures.fault)

pub returns-clause-found : goal.returns-clause-found
returns-clause-found c =
    text_found c.in_ok-bytes.bytes.items c.from_string.result c.args.rest.now c.in_ok-bytes.left.now
    (c.from_string.ensures ∙ ap (λ v. v.items) c.from_utf8_unchecked-text.ensures.value) c.in_ok-bytes.ensures.found
