use Rattle.hc_top.proofs.Absent.{if_none}
use Rattle.hc_top.proofs.Numbers.{number_has_digits}
use Rattle.hc_top.proofs.script.read_number.Goals as goal

pub returns-in_err-number-clause-none : goal.returns-in_err-number-clause-none
returns-in_err-number-clause-none c =
    let cut = c.split_digits.ensures in
    if_none c.from_residual.result _ (λ n following reading. c.in_err-number.ensures.none n
    (number_has_digits c.args.bytes.now c.split_digits.result.0.now c.split_digits.result.1.now n following cut.whole cut.digits cut.rest reading))
