use Rattle.std.proofs.Common.{◌∙◌, arith}
use Rattle.hc_record.proofs.Encodings.{all_types_fit, assembled}
use Rattle.hc_record.proofs.encoding.encode.Goals as goal

pub header_len-requires : goal.header_len-requires
header_len-requires c = omega (arith, c.types_len.ensures.len, all_types_fit c.args.values.now c.requires)

pub returns-clause-record : goal.returns-clause-record
returns-clause-record c =
    c.from_vec.ensures
    ∙ assembled c.new-out.result.items c.push_varint.new.out.items c.push_types.new.out.items c.push_bodies.new.out.items c.header_len.result c.types_len.result c.args.values.now c.new-out.ensures.items c.in_ok-push_varint.ensures c.header_len.ensures c.types_len.ensures.len c.in_ok-push_types.ensures c.in_ok-push_bodies.ensures
