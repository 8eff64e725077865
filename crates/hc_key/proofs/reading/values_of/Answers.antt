use Rattle.std.proofs.Common.{arith, length}
use Rattle.std.proofs.lemmas.Result.{err_from_is_err_and}
use Rattle.hc_text.proofs.ByteStrings.{IsBytes}
use Rattle.hc_key.proofs.Whole.{tree_read, short_fault, no_fault}
use Rattle.hc_key.specs.declared.fault.KeyFault.TheVariants.{Bad}
use Rattle.hc_key.proofs.reading.values_of.Goals as goal

pub returns-in_default-clause-only : goal.returns-in_default-clause-only
returns-in_default-clause-only c =
    let are : IsBytes c.args.key.now = λ i. omega (arith, c.type_inv.key i) in
    λ tree values small is e. no_fault c.args.key.now tree values small is e (Bad (length c.args.key.now)) (short_fault c.args.key.now are c.in_default.ensures.cases)

pub returns-in_default-clause-fault : goal.returns-in_default-clause-fault
returns-in_default-clause-fault c =
    let are : IsBytes c.args.key.now = λ i. omega (arith, c.type_inv.key i) in
    short_fault c.args.key.now are c.in_default.ensures.cases

pub values_after-requires-clause-front : goal.values_after-requires-clause-front
values_after-requires-clause-front c =
    let are : IsBytes c.args.key.now = λ i. omega (arith, c.type_inv.key i) in
    tree_read c.from_be_bytes-tree.result c.args.key.now c.in-Some.bytes.now c.in-Some.rest.now are (omega (arith, c.in-Some.ensures.cases.2)) c.in-Some.ensures.cases.0 c.in-Some.ensures.cases.1 c.from_be_bytes-tree.ensures

pub returns-in_err-values-clause-only : goal.returns-in_err-values-clause-only
returns-in_err-values-clause-only c =
    let p = err_from_is_err_and c.from_residual.result c.from_residual.ensures.1 in
    λ tree values small is e. rw (p.1, p.2) (no_fault c.args.key.now tree values small is e c.in_err-values.field-0.0 c.in_err-values.ensures.fault)
