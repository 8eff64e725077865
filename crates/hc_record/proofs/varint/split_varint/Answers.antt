use Rattle.std.proofs.Common.{◌<◌, arith, rules}
use Rattle.hc_record.proofs.Bounds.{groups_fit, one_more_fits, read_one_more}
use Rattle.hc_record.proofs.varint.split_varint.Goals as goal

pub overflow_mul-result : goal.overflow_mul-result
overflow_mul-result c = omega (arith, groups_fit c.loop.n c.loop.counter (omega (arith, c.loop-test.true)) c.loop.invariant.fits)

pub overflow_add-result : goal.overflow_add-result
overflow_add-result c = omega (arith, groups_fit c.loop.n c.loop.counter (omega (arith, c.loop-test.true)) c.loop.invariant.fits, (let small : c.from.result < 256 = search rules in small))

pub overflow_mul-n : goal.overflow_mul-n
overflow_mul-n c = omega (arith, groups_fit c.loop.n c.loop.counter (omega (arith, c.loop-test.true)) c.loop.invariant.fits)

pub overflow_add-n : goal.overflow_add-n
overflow_add-n c = omega (arith, groups_fit c.loop.n c.loop.counter (omega (arith, c.loop-test.true)) c.loop.invariant.fits, (let small : c.from-in-loop.result < 256 = search rules in small))

pub loop-preserved : goal.loop-preserved
loop-preserved c =
    record {
      same = rw c.from-in-loop.ensures (read_one_more c.loop.n c.loop.counter c.in_ok-b.b.now c.loop.rest.now c.in_ok-b.after.now c.args.bytes.now c.loop-test.true c.if-b-lt128.false c.in_ok-b.ensures.cases.0 c.loop.invariant.same);
      fits = one_more_fits c.loop.n c.loop.counter c.from-in-loop.result c.loop.invariant.fits (let byte : c.in_ok-b.b.now < 256 = search rules in omega (arith, c.from-in-loop.ensures, byte));
      left = search (rules, c.loop.invariant.left, c.in_ok-b.ensures.cases);
    }
