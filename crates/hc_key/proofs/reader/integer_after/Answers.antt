use Rattle.std.proofs.Common.{◌∙◌, arith, w64, FitsSigned, rules}
use Rattle.std.proofs.lemmas.Int.{to_z-of_z}
use Rattle.hc_key.proofs.Parts.{integer_fault, integer_found}
use Rattle.hc_text.proofs.ByteStrings.{IsBytes}
use Rattle.hc_key.proofs.reader.integer_after.Goals as goal

pub returns-in_default-clause-fault : goal.returns-in_default-clause-fault
returns-in_default-clause-fault c =
    let are : IsBytes c.args.rest.now = λ i. omega (arith, c.type_inv.rest i) in
    integer_fault c.args.rest.now c.args.place are c.in_default.ensures.cases

pub returns-clause-found : goal.returns-clause-found
returns-clause-found c =
    let are : IsBytes c.args.rest.now = λ i. omega (arith, c.type_inv.rest i) in
    let fits : FitsSigned w64 c.unturned.result = search rules in
    integer_found _ c.unturned.result c.args.rest.now c.in-Some.bytes.now c.in-Some.left.now (to_z-of_z w64 c.unturned.result fits) fits are
    (omega (arith, c.in-Some.ensures.cases.2)) c.in-Some.ensures.cases.0 c.in-Some.ensures.cases.1 (c.unturned.ensures ∙ c.from_be_bytes.ensures)
