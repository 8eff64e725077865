use Rattle.std.proofs.Common.{◌+◌, ◌≤◌, List, length, ap, ◌∙◌, rules, arith}
use Rattle.std.proofs.lemmas.List.{take_all}
use Rattle.hc_value.specs.declared.value.Value.{Value}
use Rattle.hc_record.specs.Record.{types_of, bodies_of}
use Rattle.hc_record.proofs.Clamped.{clamped, whole_len}
use Rattle.hc_record.proofs.Encodings.{bodies_fit, types_more}
use Rattle.hc_record.proofs.length.encoding_len.Goals as goal

pub loop-v-preserved : goal.loop-v-preserved
loop-v-preserved c =
    let types = types_more c.args.values.now c.loop-v.v-index c.v-item.result c.v-item.is c.loop-v-test.true in
    let bodies = bodies_fit c.args.values.now c.loop-v.v-index c.v-item.result c.v-item.is c.loop-v-test.true in
    record {
      types = omega (arith, types.0, c.loop-v.invariant.types, c.type_len.ensures, c.saturating_add-types.ensures);
      bodies = omega (arith, bodies.0, c.loop-v.invariant.bodies, c.value_len.ensures, c.saturating_add-bodies.ensures);
    }

pub returns : goal.returns
returns c =
    let done : length c.args.values.now ≤ c.loop-v.v-index = search (rules, c.loop-v-test.false) in
    let all = take_all c.loop-v.v-index c.args.values.now done in
    whole_len c.loop-v.types c.loop-v.bodies c.saturating_add.result c.saturating_add-header.result c.saturating_add-3.result c.args.values.now
    (c.loop-v.invariant.types ∙ ap (λ (l : List Value). clamped (length (types_of l))) all)
    (c.loop-v.invariant.bodies ∙ ap (λ (l : List Value). clamped (length (bodies_of l))) all)
    (c.saturating_add.ensures ∙ ap (λ n. clamped (c.loop-v.types + n)) c.varint_len.ensures)
    (c.saturating_add-header.ensures ∙ ap (λ n. clamped (c.loop-v.types + n)) c.varint_len-2.ensures)
    (c.saturating_add-3.ensures ∙ ap (λ n. clamped (n + c.loop-v.bodies)) (c.saturating_add-2.ensures ∙ ap (λ n. clamped (n + c.loop-v.types)) c.varint_len-3.ensures))
