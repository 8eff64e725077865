use Rattle.std.proofs.Common.{◌^◌, ◌<◌, arith}
use Rattle.hc_reply.proofs.Digits.{mismatch_without_digit, mismatch_at_first, mismatch_at_digit, mismatch_too_low, within_high, one_digit, one_more}
use Rattle.hc_reply.proofs.number.number.Goals as goal

pub returns-in_default-clause-stop : goal.returns-in_default-clause-stop
returns-in_default-clause-stop c = mismatch_without_digit c.args.low c.args.high c.requires.some (omega (arith, c.ranges.high)) c.args.bytes.now c.in_default.ensures.none

pub returns-then-not-begins_within-clause-stop : goal.returns-then-not-begins_within-clause-stop
returns-then-not-begins_within-clause-stop c =
    mismatch_at_first c.args.low c.args.high c.requires.some (omega (arith, c.ranges.high)) c.in-Some.first c.args.bytes.now c.in-Some.after.now
    c.in-Some.ensures.some.0 c.in-Some.ensures.some.1 (c.begins_within.ensures.none c.if-not-begins_within.true)

pub loop-d-init : goal.loop-d-init
loop-d-init c = record {
  written = one_digit c.in-Some.first c.args.bytes.now c.in-Some.after.now c.in-Some.ensures.some.0 c.in-Some.ensures.some.1;
  some = c.begins_within.ensures.some c.if-not-begins_within.false;
  small = omega (arith, c.in-Some.ensures.some.0);
}

pub returns-in_default-with_digit-clause-stop : goal.returns-in_default-with_digit-clause-stop
returns-in_default-with_digit-clause-stop c =
    mismatch_at_digit c.args.low c.args.high c.requires.some (omega (arith, c.ranges.high)) c.loop-d.n c.in-Some-digit.d c.args.bytes.now c.loop-d.rest.now c.in-Some-digit.after.now
    (c.loop-d.invariant.small) c.in-Some-digit.ensures.some.0 c.loop-d.invariant.written c.in-Some-digit.ensures.some.1 c.loop-d.invariant.some c.in_default-with_digit.ensures.none

pub loop-d-preserved : goal.loop-d-preserved
loop-d-preserved c = record {
  written =
      let more = c.in-Some-with_digit.ensures.some in
      one_more c.args.low c.args.high c.requires.some (omega (arith, c.ranges.high)) c.loop-d.n c.in-Some-digit.d c.in-Some-with_digit.longer c.args.bytes.now c.loop-d.rest.now c.in-Some-digit.after.now
      more.0 (c.loop-d.invariant.small) c.in-Some-digit.ensures.some.0 more.1 c.loop-d.invariant.written c.in-Some-digit.ensures.some.1;
  some = c.in-Some-with_digit.ensures.some.2;
  small =
      let wide : c.in-Some-with_digit.longer < 10 ^ 64 = omega (arith, c.in-Some-with_digit.ensures.some.1, c.loop-d.invariant.small, c.in-Some-digit.ensures.some.0) in
      omega (arith, c.ranges.high, within_high c.args.low c.args.high c.requires.some (omega (arith, c.ranges.high)) c.in-Some-with_digit.longer wide c.in-Some-with_digit.ensures.some.2);
}

pub returns-then-n-low-clause-stop : goal.returns-then-n-low-clause-stop
returns-then-n-low-clause-stop c =
    mismatch_too_low c.args.low c.args.high c.requires.some (omega (arith, c.ranges.high)) c.loop-d.n c.args.bytes.now c.loop-d.rest.now (c.loop-d.invariant.small)
    c.loop-d.invariant.written c.in_default-digit.ensures.none c.loop-d.invariant.some (omega (arith, c.if-n-low.true))

pub returns-clause-found : goal.returns-clause-found
returns-clause-found c = (
  (omega (arith, c.if-n-low.false), within_high c.args.low c.args.high c.requires.some (omega (arith, c.ranges.high)) c.loop-d.n (omega (arith, c.loop-d.invariant.small)) c.loop-d.invariant.some),
  c.loop-d.invariant.written,
  c.in_default-digit.ensures.none,
)
