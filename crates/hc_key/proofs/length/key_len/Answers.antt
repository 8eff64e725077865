use Rattle.std.proofs.Common.{◌≤◌, List, length, ap, rules, arith}
use Rattle.std.proofs.lemmas.List.{take_all}
use Rattle.hc_value.specs.declared.value.Value.{Value}
use Rattle.hc_key.specs.Keys.{list_bytes}
use Rattle.hc_key.proofs.Lengths.{one_more, key_len}
use Rattle.hc_key.proofs.length.key_len.Goals as goal

pub loop-v-preserved : goal.loop-v-preserved
loop-v-preserved c =
    omega (arith, c.loop-v.invariant, c.saturating_add-len.ensures, c.value_len.ensures, one_more c.args.values.now c.loop-v.v-index c.v-item.result c.v-item.is c.loop-v-test.true)

pub returns : goal.returns
returns c tree =
    let done : length c.args.values.now ≤ c.loop-v.v-index = search (rules, c.loop-v-test.false) in
    omega (arith, c.loop-v.invariant, ap (λ (l : List Value). length (list_bytes l)) (take_all c.loop-v.v-index c.args.values.now done), key_len tree c.args.values.now)
