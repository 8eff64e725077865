-- The key's bytes are read where the entry has them.
use Rattle.std.proofs.Common.{arith}
use Rattle.hc_split.proofs.KeyBytes.{key_there}
use Rattle.hc_split.proofs.reading.copy_key.Goals as goal

pub overflow_add-place : goal.overflow_add-place
overflow_add-place c =
    let h = c.requires.there in
    let k = key_there c.args.page.now.words c.args.slot h.0 h.1 c.place.result c.level.result c.head.result c.key_len-len.result h.2 c.place.ensures (c.level.ensures.level h.0 h.2.page) c.head.ensures (c.key_len-len.ensures.len h.0 h.1 h.2.page h.2.there) in
    omega (arith, k.0)

pub overflow_mul-place : goal.overflow_mul-place
overflow_mul-place c =
    let h = c.requires.there in
    let k = key_there c.args.page.now.words c.args.slot h.0 h.1 c.place.result c.level.result c.head.result c.key_len-len.result h.2 c.place.ensures (c.level.ensures.level h.0 h.2.page) c.head.ensures (c.key_len-len.ensures.len h.0 h.1 h.2.page h.2.there) in
    omega (arith, k.0)

pub copy_bytes-requires-clause-within : goal.copy_bytes-requires-clause-within
copy_bytes-requires-clause-within c =
    let h = c.requires.there in
    let k = key_there c.args.page.now.words c.args.slot h.0 h.1 c.place.result c.level.result c.head.result c.key_len-len.result h.2 c.place.ensures (c.level.ensures.level h.0 h.2.page) c.head.ensures (c.key_len-len.ensures.len h.0 h.1 h.2.page h.2.there) in
    omega (arith, k.0)

pub returns : goal.returns
returns c = record {
  key = λ d e has.
      let k = key_there c.args.page.now.words c.args.slot d e c.place.result c.level.result c.head.result c.key_len-len.result has c.place.ensures (c.level.ensures.level d has.page) c.head.ensures (c.key_len-len.ensures.len d e has.page has.there) in
      c.copy_bytes.ensures e.key k.1;
}
