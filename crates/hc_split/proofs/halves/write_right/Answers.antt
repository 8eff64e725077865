-- The right half is a content that fits.
use Rattle.hc_split.proofs.Parting.{can_write_right, cut_within, right_written}
use Rattle.hc_split.proofs.halves.write_right.Goals as goal

pub key-key-requires : goal.key-key-requires
key-key-requires c = let h = c.requires.cut in record { there = (h.0, h.2.part.joined_is, cut_within c.args.joined.now h.1 c.args.fresh h.0 h.2.part c.args.at h.2.cut) }

pub write-requires : goal.write-requires
write-requires c =
    let h = c.requires.cut in
    let joined = c.args.joined.now in
    let is = h.2.part.joined_is in
    let key_is = c.key-key.ensures.key h.0 is (cut_within joined h.1 c.args.fresh h.0 h.2.part c.args.at h.2.cut) in
    record {
      write = (
        h.0,
        can_write_right joined h.1 c.args.fresh h.0 h.2.part c.args.at h.2.cut c.right_head-head.result c.key-key.result key_is c.count.result (c.count.ensures.count h.0 is)
            (c.right_head-head.ensures.head h.0 is.will.page (c.high-high.ensures.high h.0 is.will.page)),
      );
    }

pub returns : goal.returns
returns c = record {
  page = λ d own has.
      let joined = c.args.joined.now in
      let is = has.part.joined_is in
      let key_is = c.key-key.ensures.key d is (cut_within joined own c.args.fresh d has.part c.args.at has.cut) in
      let head_is = c.right_head-head.ensures.head d is.will.page (c.high-high.ensures.high d is.will.page) in
      let all = c.count.ensures.count d is in
      right_written joined own c.args.fresh d has.part c.args.at has.cut c.right_head-head.result c.key-key.result key_is c.write.new.out.words c.count.result all head_is
      (c.write.ensures.page d (can_write_right joined own c.args.fresh d has.part c.args.at has.cut c.right_head-head.result c.key-key.result key_is c.count.result all head_is));
}
