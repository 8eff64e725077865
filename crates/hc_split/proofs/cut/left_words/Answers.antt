-- What is before the entries, and they.
use Rattle.std.proofs.Common.{◌/◌, ◌+◌, ap, ◌∙◌, arith}
use Rattle.hc_split.specs.Joined.{joined_entries}
use Rattle.hc_split.proofs.Joining.{key_short}
use Rattle.hc_split.proofs.Measuring.{left_is}
use Rattle.hc_split.proofs.cut.left_words.Goals as goal

pub size-cut-requires : goal.size-cut-requires
size-cut-requires c =
    let h = c.requires.there in
    omega (arith, c.key_len.ensures.len h.0 h.1.joined_is h.1.there, key_short c.args.joined.now h.0 h.1.joined_is c.args.at h.1.there)

pub returns : goal.returns
returns c = record {
  left = λ d fresh can.
      left_is c.args.frame d fresh (joined_entries c.args.joined.now d) c.args.at c.size-cut.result c.words_to.result can.frame_is can.there
      (c.size-cut.ensures.size ∙ ap (λ n. (n + 7) / 8) (c.key_len.ensures.len d can.joined_is can.there)) (c.words_to.ensures.words d can.joined_is (omega (arith, can.there)));
}
