use Rattle.std.proofs.Common.{◌≡◌, ◌^◌, ◌<◌, ◌-◌, ◌∷◌, ◌++◌, length, arith, ap, ◌∙◌}
use Rattle.std.proofs.lemmas.Result.{err_from_is_err_and}
use Rattle.std.proofs.lemmas.List.{length-append}
use Rattle.hc_key.specs.Keys.{value_bytes, key_bytes}
use Rattle.hc_key.proofs.Parts.{some_value_bytes}
use Rattle.hc_key.proofs.Whole.{part_in_key, read_more, are_more, length-after}
use Rattle.hc_key.proofs.reading.values_after.Goals as goal

pub returns-in_err-value-clause-fault : goal.returns-in_err-value-clause-fault
returns-in_err-value-clause-fault c =
    let p = err_from_is_err_and c.from_residual.result c.from_residual.ensures.1 in
    let small : c.args.tree < 2 ^ 32 = omega (arith, c.ranges.tree) in
    let first : c.loop-class.left.now ≡ c.in-Some.class.now ∷ c.in-Some.tail.now = c.in-Some.ensures.cases.0 in
    let here : length c.args.key.now - length c.loop-class.left.now ≡ length (key_bytes c.args.tree c.loop-class.values) =
    omega (arith, length-after c.args.tree c.loop-class.values c.args.key.now c.loop-class.left.now c.loop-class.invariant.written) in
    rw (p.1, p.2) (part_in_key c.values_are_equal_in_order_exactly_when_they_are_the_same.ensures c.args.tree c.loop-class.values c.args.key.now (c.in-Some.class.now ∷ c.in-Some.tail.now)
    (length c.args.key.now - length c.loop-class.left.now) c.in_err-value.field-0.0 small c.loop-class.invariant.are
    (c.loop-class.invariant.written ∙ ap (λ l. key_bytes c.args.tree c.loop-class.values ++ l) first) (omega arith) here c.in_err-value.ensures.fault)

pub loop-class-smaller : goal.loop-class-smaller
loop-class-smaller c =
    omega (arith, ap length c.in_ok-value.ensures.found.1, length-append (value_bytes c.in_ok-value.value) c.in_ok-value.after.now, some_value_bytes c.in_ok-value.value, ap length c.in-Some.ensures.cases.0)

pub loop-class-preserved : goal.loop-class-preserved
loop-class-preserved c =
    record {
      written = rw c.in_ok-push.ensures.ok (read_more c.args.tree c.loop-class.values c.in_ok-value.value c.args.key.now c.loop-class.left.now c.in_ok-value.after.now c.loop-class.invariant.written (c.in-Some.ensures.cases.0 ∙ c.in_ok-value.ensures.found.1));
      are = rw c.in_ok-push.ensures.ok (are_more c.loop-class.values c.in_ok-value.value c.loop-class.invariant.are c.in_ok-value.ensures.found.0);
    }
