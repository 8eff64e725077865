use Rattle.std.proofs.lemmas.Result.{err_from_is_err_and}
use Rattle.hc_key.proofs.Parts.{blob_fault, blob_found}
use Rattle.hc_key.proofs.reader.blob_after.Goals as goal

pub returns-in_err-bytes-clause-fault : goal.returns-in_err-bytes-clause-fault
returns-in_err-bytes-clause-fault c =
    let p = err_from_is_err_and c.from_residual.result c.from_residual.ensures.1 in
    rw (p.1, p.2) (blob_fault c.args.rest.now c.args.place c.in_err-bytes.field-0.0 c.in_err-bytes.ensures.fault)

pub returns-clause-found : goal.returns-clause-found
returns-clause-found c = blob_found c.in_ok-bytes.bytes.items c.from_vec.result c.args.rest.now c.in_ok-bytes.left.now c.from_vec.ensures c.in_ok-bytes.ensures.found.0
