use Rattle.std.proofs.Common.{◌∙◌, ap, arith, rules}
use Rattle.hc_record.specs.Varint.{varint_len}
use Rattle.hc_record.proofs.Encodings.{body_fits, types_fit, values_one_more, all_values}
use Rattle.hc_record.proofs.encoding.types_len.Goals as goal

pub serial_type-requires : goal.serial_type-requires
serial_type-requires c = body_fits c.args.values.now c.loop-v.v-index c.v-item.result c.v-item.is c.loop-v-test.true c.requires

pub overflow_add-len : goal.overflow_add-len
overflow_add-len c =
    let more = types_fit c.args.values.now c.loop-v.v-index c.v-item.result c.v-item.is c.loop-v-test.true c.requires in
    omega (arith, more.0, more.1, c.loop-v.invariant.len, c.varint_len-len.ensures ∙ ap varint_len c.serial_type.ensures.serial)

pub loop-v-preserved : goal.loop-v-preserved
loop-v-preserved c =
    let more = types_fit c.args.values.now c.loop-v.v-index c.v-item.result c.v-item.is c.loop-v-test.true c.requires in
    record {
      len = omega (arith, more.0, c.loop-v.invariant.len, c.varint_len-len.ensures ∙ ap varint_len c.serial_type.ensures.serial);
      values = values_one_more c.args.values.now c.loop-v.v-index c.v-item.result c.v-item.is c.loop-v-test.true c.loop-v.invariant.values c.serial_type.ensures.value;
    }

pub returns-clause-values : goal.returns-clause-values
returns-clause-values c = all_values c.args.values.now c.loop-v.v-index (search rules) c.loop-v.invariant.values
