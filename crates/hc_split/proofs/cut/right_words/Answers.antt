-- What is before the entries, and they.
use Rattle.std.proofs.Common.{sym, arith}
use Rattle.hc_shape.specs.Halves.{cut_at}
use Rattle.hc_split.specs.Joined.{joined_entries}
use Rattle.hc_split.proofs.Joining.{key_short}
use Rattle.hc_split.proofs.Measuring.{no_more, right_is}
use Rattle.hc_split.proofs.cut.right_words.Goals as goal

pub low_size-cut-requires : goal.low_size-cut-requires
low_size-cut-requires c =
    let h = c.requires.there in
    omega (arith, c.key_len.ensures.len h.0 h.1.joined_is h.1.there, key_short c.args.joined.now h.0 h.1.joined_is c.args.at h.1.there)

pub overflow_sub-entries : goal.overflow_sub-entries
overflow_sub-entries c =
    let h = c.requires.there in
    let all = c.count-count.ensures.count h.0 h.1.joined_is in
    omega (
      arith,
      c.words_to.ensures.words h.0 h.1.joined_is (omega (arith, all)),
      c.words_to-2.ensures.words h.0 h.1.joined_is (omega (arith, h.1.there)),
      no_more (joined_entries c.args.joined.now h.0) c.args.at c.count-count.result all,
    )

pub overflow_add-result-3 : goal.overflow_add-result-3
overflow_add-result-3 c =
    let h = c.requires.there in
    omega (arith, c.low_size-cut.ensures.small, c.count-count.ensures.small, c.key_len.ensures.len h.0 h.1.joined_is h.1.there, key_short c.args.joined.now h.0 h.1.joined_is c.args.at h.1.there)

pub overflow_add-result-4 : goal.overflow_add-result-4
overflow_add-result-4 c =
    let h = c.requires.there in
    omega (
      arith,
      h.1.frame_is.high_small,
      c.low_size-cut.ensures.small,
      c.count-count.ensures.small,
      c.key_len.ensures.len h.0 h.1.joined_is h.1.there,
      key_short c.args.joined.now h.0 h.1.joined_is c.args.at h.1.there,
    )

pub overflow_add-result-5 : goal.overflow_add-result-5
overflow_add-result-5 c =
    let h = c.requires.there in
    omega (
      arith,
      h.1.frame_is.high_small,
      c.words_to.ensures.small,
      c.low_size-cut.ensures.small,
      c.count-count.ensures.small,
      c.key_len.ensures.len h.0 h.1.joined_is h.1.there,
      key_short c.args.joined.now h.0 h.1.joined_is c.args.at h.1.there,
    )

pub returns : goal.returns
returns c = record {
  right = λ d fresh can.
      let all = c.count-count.ensures.count d can.joined_is in
      right_is c.args.frame d fresh (joined_entries c.args.joined.now d) c.args.at c.count-count.result c.low_size-cut.result c.words_to.result c.words_to-2.result can.frame_is can.there all
      (c.low_size-cut.ensures.size (cut_at (joined_entries c.args.joined.now d) c.args.at) (sym (c.key_len.ensures.len d can.joined_is can.there)))
      (c.words_to.ensures.words d can.joined_is (omega (arith, all))) (c.words_to-2.ensures.words d can.joined_is (omega (arith, can.there)));
}
