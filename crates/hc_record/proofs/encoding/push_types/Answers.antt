use Rattle.hc_record.proofs.Encodings.{body_fits}
use Rattle.hc_record.proofs.encoding.push_types.Goals as goal

pub serial_type-requires : goal.serial_type-requires
serial_type-requires c = body_fits c.args.values.now c.loop-v.v-index c.v-item.result c.v-item.is c.loop-v-test.true c.requires
