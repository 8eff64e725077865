use Rattle.std.proofs.Common.{◌-◌, arith, length, rules}
use Rattle.std.proofs.lemmas.Result.{err_from_is_err_and}
use Rattle.hc_record.specs.Reading.{values_of_types}
use Rattle.hc_record.proofs.Types.{values_go_on, type_ends_values, test_ends_values, value_ends_values, values_are_done}
use Rattle.hc_record.proofs.decoding.values_at.Goals as goal

pub returns-in_err-serial-clause-read : goal.returns-in_err-serial-clause-read
returns-in_err-serial-clause-read c =
    let p = err_from_is_err_and c.from_residual.result c.from_residual.ensures.1 in
    rw (p.1, p.2)
    (type_ends_values c.in_err-serial.field-0.0 (c.args.end - length c.args.bodies.now) c.args.end c.loop-types.values c.loop-types.types.now c.loop-types.bodies.now (values_of_types (c.args.end - length c.args.bodies.now) c.args.end c.args.types.now c.args.bodies.now) (search (rules, c.loop-types-test.ensures)) c.in_err-serial.ensures.read c.loop-types.invariant.same)

pub loop-types-preserved : goal.loop-types-preserved
loop-types-preserved c =
    record {
      same = rw c.in_ok-push-in-Ok.ensures.ok
          (values_go_on (c.args.end - length c.args.bodies.now) c.args.end c.loop-types.values c.loop-types.types.now c.loop-types.bodies.now (c.in_ok-serial.serial, c.in_ok-serial.after.now) (c.in-Ok.value, c.in-Ok.rest.now) (values_of_types (c.args.end - length c.args.bodies.now) c.args.end c.args.types.now c.args.bodies.now) (search (rules, c.loop-types-test.ensures)) c.in_ok-serial.ensures.read c.in-Ok.ensures.read c.loop-types.invariant.same);
      within = omega (arith, c.in_ok-serial.ensures.shorter, c.loop-types.invariant.within);
      shorter = omega (arith, c.in-Ok.ensures.no_longer, c.loop-types.invariant.shorter);
    }

pub returns-in_err-test_types-in-Err-clause-read : goal.returns-in_err-test_types-in-Err-clause-read
returns-in_err-test_types-in-Err-clause-read c =
    let p = err_from_is_err_and c.from_residual-in_err-test_types-in-Err.result c.from_residual-in_err-test_types-in-Err.ensures.1 in
    rw (p.1, p.2)
    (test_ends_values c.in_err-test_types-in-Err.field-0.0 (c.args.end - length c.args.bodies.now) c.args.end c.loop-types.values c.loop-types.types.now c.loop-types.bodies.now (c.in_ok-serial.serial, c.in_ok-serial.after.now) (values_of_types (c.args.end - length c.args.bodies.now) c.args.end c.args.types.now c.args.bodies.now) (search (rules, c.loop-types-test.ensures)) c.in_ok-serial.ensures.read c.in_err-test_types-in-Err.ensures c.loop-types.invariant.same)

pub returns-in-Err-clause-read : goal.returns-in-Err-clause-read
returns-in-Err-clause-read c =
    value_ends_values c.in-Err.fault (c.args.end - length c.args.bodies.now) c.args.end c.loop-types.values c.loop-types.types.now c.loop-types.bodies.now (c.in_ok-serial.serial, c.in_ok-serial.after.now) (values_of_types (c.args.end - length c.args.bodies.now) c.args.end c.args.types.now c.args.bodies.now) (search (rules, c.loop-types-test.ensures)) c.in_ok-serial.ensures.read c.in_ok-test_types-in-Err.ensures c.in-Err.ensures.read c.loop-types.invariant.same

pub returns-clause-read : goal.returns-clause-read
returns-clause-read c =
    values_are_done (c.args.end - length c.args.bodies.now) c.args.end c.loop-types.values c.loop-types.types.now c.loop-types.bodies.now (values_of_types (c.args.end - length c.args.bodies.now) c.args.end c.args.types.now c.args.bodies.now) (search (rules, c.loop-types-test.ensures)) c.loop-types.invariant.same
