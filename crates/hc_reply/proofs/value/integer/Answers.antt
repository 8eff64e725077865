use Rattle.std.proofs.Common.{◌-◌, ◌^◌, w64, FitsSigned}
use Rattle.std.specs.Prelude.{decimal}
use Rattle.std.specs.Fmt.{signed_decimal}
use Rattle.std.proofs.lemmas.Result.{err_from_is_err_and}
use Rattle.hc_reply.specs.Numbers.{IsWithin}
use Rattle.hc_reply.specs.Mismatches.{NoDigit}
use Rattle.hc_reply.proofs.Sequences.{mismatch_as}
use Rattle.hc_reply.proofs.Integers.{mismatch_without_minus, mismatch_after_minus}
use Rattle.hc_reply.proofs.value.integer.Goals as goal

pub returns-in_err-n-clause-stop : goal.returns-in_err-n-clause-stop
returns-in_err-n-clause-stop c =
    let p = err_from_is_err_and c.from_residual.result c.from_residual.ensures.1 in
    rw (p.1, p.2)
    (mismatch_as NoDigit NoDigit (IsWithin 0 (2 ^ 63 - 1)) decimal (FitsSigned w64) signed_decimal c.args.bytes.now c.args.bytes.now
    (λ rest s. mismatch_without_minus c.args.bytes.now rest c.in_default.ensures.none s) c.in_err-n.field-0.0 c.in_err-n.ensures.stop)

pub returns-in_err-n-2-clause-stop : goal.returns-in_err-n-2-clause-stop
returns-in_err-n-2-clause-stop c =
    let p = err_from_is_err_and c.from_residual-in_err-n-2.result c.from_residual-in_err-n-2.ensures.1 in
    rw (p.1, p.2)
    (mismatch_as NoDigit NoDigit (IsWithin 1 (2 ^ 63)) decimal (FitsSigned w64) signed_decimal c.in-Some.digits.now c.args.bytes.now
    (λ rest s. mismatch_after_minus c.args.bytes.now c.in-Some.digits.now rest c.in-Some.ensures.some s) c.in_err-n-2.field-0.0 c.in_err-n-2.ensures.stop)
