use Rattle.std.proofs.Common.{◌+◌, ◌*◌, ◌<◌, arith}
use Rattle.hc_reply.proofs.Digits.{none_above}
use Rattle.hc_reply.proofs.number.with_digit.Goals as goal
use Rattle.hc_reply.proofs.number.with_digit.Goals.{then-n-eq0-via-then-n-eq0, then-n-eq0-via-else-n-eq0+then-n-d}

pub returns-then-n-eq0-clause-none : goal.returns-then-n-eq0-clause-none
returns-then-n-eq0-clause-none c = λ some.
    let above : c.args.high < c.args.n * 10 + c.args.d =
    elim c.then-n-eq0.branch [
      | then-n-eq0-via-then-n-eq0 w ↦ absurd (omega (arith, w.if-n-eq0.true, some))
      | then-n-eq0-via-else-n-eq0+then-n-d w ↦ omega (arith, w.if-n-d.true, c.ranges.high, c.requires.digit)
    ] in
    none_above (c.args.n * 10 + c.args.d) c.args.low c.args.high (omega (arith, c.ranges.high)) (omega (arith, c.ranges.n, c.requires.digit)) above

pub returns-else-begins_within-clause-none : goal.returns-else-begins_within-clause-none
returns-else-begins_within-clause-none c = λ some. c.begins_within.ensures.none c.if-begins_within.false
