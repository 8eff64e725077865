-- Each word goes to its place.
use Rattle.std.proofs.Common.{◌≡◌, ◌+◌, ◌/◌, ◌++◌, length, ◌∙◌, sym, arith, length-append}
use Rattle.hc_base.specs.Layout.{words_of}
use Rattle.hc_base.proofs.ByteWords.{words_of-read}
use Rattle.hc_base.proofs.Places.{words_of-length}
use Rattle.hc_page.proofs.Written.{written_more, written_all}
use Rattle.hc_page.proofs.writer.write_bytes.Goals as goal

pub loop-k-preserved : goal.loop-k-preserved
loop-k-preserved c =
    let bytes = c.args.one.now ++ c.args.other.now in
    let size : length (words_of bytes) ≡ (length c.args.one.now + length c.args.other.now + 7) / 8 = omega (arith, words_of-length bytes, length-append c.args.one.now c.args.other.now) in
    written_more c.args.out.now.words c.loop-k.out.words c.args.at c.loop-k.k c.joined_word.result (words_of bytes) c.loop-k.invariant (omega (arith, size)) (omega (arith, size))
    (c.joined_word.ensures ∙ sym (words_of-read c.loop-k.k bytes (omega (arith, length-append c.args.one.now c.args.other.now))))

pub returns : goal.returns
returns c =
    let bytes = c.args.one.now ++ c.args.other.now in
    written_all c.args.out.now.words c.loop-k.out.words c.args.at c.loop-k.k (words_of bytes) c.loop-k.invariant (omega (arith, words_of-length bytes, length-append c.args.one.now c.args.other.now))
