-- The left half is a content that fits.
use Rattle.hc_split.proofs.Parting.{can_write_left, cut_within, left_written}
use Rattle.hc_split.proofs.halves.write_left.Goals as goal

pub key-key-requires : goal.key-key-requires
key-key-requires c = let h = c.requires.cut in record { there = (h.0, h.1.part.joined_is, cut_within c.args.joined.now c.args.own c.args.fresh h.0 h.1.part c.args.at h.1.cut) }

pub write-requires : goal.write-requires
write-requires c =
    let h = c.requires.cut in
    let joined = c.args.joined.now in
    let is = h.1.part.joined_is in
    let key_is = c.key-key.ensures.key h.0 is (cut_within joined c.args.own c.args.fresh h.0 h.1.part c.args.at h.1.cut) in
    record {
      write = (
        h.0,
        can_write_left joined c.args.own c.args.fresh h.0 h.1.part c.args.at h.1.cut c.left_head-head.result c.key-key.result key_is
            (c.left_head-head.ensures.head h.0 is.will.page (c.low-low.ensures.low h.0 is.will.page)),
      );
    }

pub returns : goal.returns
returns c = record {
  page = λ d has.
      let joined = c.args.joined.now in
      let own = c.args.own in
      let is = has.part.joined_is in
      let key_is = c.key-key.ensures.key d is (cut_within joined own c.args.fresh d has.part c.args.at has.cut) in
      let head_is = c.left_head-head.ensures.head d is.will.page (c.low-low.ensures.low d is.will.page) in
      left_written joined own c.args.fresh d has.part c.args.at has.cut c.left_head-head.result c.key-key.result key_is c.write.new.out.words head_is
      (c.write.ensures.page d (can_write_left joined own c.args.fresh d has.part c.args.at has.cut c.left_head-head.result c.key-key.result key_is head_is));
}
