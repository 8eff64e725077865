use Rattle.std.proofs.Common.{arith, rules}
use Rattle.std.proofs.lemmas.Result.{err_from_is_err_and}
use Rattle.hc_record.proofs.Types.{test_goes_on, test_ends, test_is_done}
use Rattle.hc_record.proofs.reader.test_types.Goals as goal

pub returns-in_err-after : goal.returns-in_err-after
returns-in_err-after c =
    let p = err_from_is_err_and c.from_residual.result c.from_residual.ensures.1 in
    rw (p.1, p.2) (test_ends c.in_err-after.field-0.0 c.args.stop c.loop-rest.rest.now c.args.bytes.now (search (rules, c.loop-rest-test.ensures)) c.in_err-after.ensures.read c.loop-rest.invariant.same)

pub loop-rest-preserved : goal.loop-rest-preserved
loop-rest-preserved c =
    record {
      same = test_goes_on c.args.stop c.loop-rest.rest.now c.args.bytes.now (c.in_ok-after.field-0-0, c.in_ok-after.after.now) (search (rules, c.loop-rest-test.ensures)) c.in_ok-after.ensures.read c.loop-rest.invariant.same;
      within = omega (arith, c.in_ok-after.ensures.shorter, c.loop-rest.invariant.within);
    }

pub returns : goal.returns
returns c = test_is_done c.args.stop c.loop-rest.rest.now c.args.bytes.now (search (rules, c.loop-rest-test.ensures)) c.loop-rest.invariant.same
