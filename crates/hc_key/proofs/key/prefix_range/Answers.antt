use Rattle.std.proofs.Common.{◌≡◌, ◌^◌, ◌<◌, ◌++◌, [], ◌∷◌, Some, subst, arith}
use Rattle.hc_range.specs.declared.range.Range.{Range}
use Rattle.hc_key.specs.Keys.{key_bytes}
use Rattle.hc_key.specs.Laws.{range_of, HoldsPrefixed}
use Rattle.hc_key.proofs.Prefix.{range_holds}
use Rattle.hc_key.proofs.key.prefix_range.Goals as goal

pub returns-clause-keys : goal.returns-clause-keys
returns-clause-keys c =
    let low : key_bytes c.args.tree c.args.values.now ≡ c.in_ok-lo.lo = cc (c.in_ok-lo.ensures, c.as_slice.ensures.value, c.in_ok-hi.ensures) in
    let high : key_bytes c.args.tree c.args.values.now ++ 255 ∷ [] ≡ c.from_vec.result = cc (c.from_vec.ensures, c.in_ok-push.ensures.items, c.in_ok-hi.ensures) in
    let found : range_of c.args.tree c.args.values.now ≡ record { lo = c.in_ok-lo.lo; hi = Some c.from_vec.result } = λ i. record { lo = low i; hi = Some (high i) } in
    let small : c.args.tree < 2 ^ 32 = omega (arith, c.ranges.tree) in
    subst (λ (r : Range). HoldsPrefixed r c.args.tree c.args.values.now) found
    (range_holds c.values_are_equal_in_order_exactly_when_they_are_the_same.ensures c.args.tree c.args.values.now small c.are_values.ensures)
