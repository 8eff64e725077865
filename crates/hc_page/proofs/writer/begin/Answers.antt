-- The head's words, then its fences, then zeros.
use Rattle.std.proofs.Common.{◌+◌, ◌/◌, length, refl, sym, ap, ◌∙◌, arith}
use Rattle.hc_base.proofs.Places.{words_of-length}
use Rattle.hc_page.proofs.Beginning.{begun, fences_fit, third_begun}
use Rattle.hc_page.proofs.writer.begin.Goals as goal

pub third_word_of-third-requires-clause-places : goal.third_word_of-third-requires-clause-places
third_word_of-third-requires-clause-places c =
    let size = fences_fit c.args.head.now c.args.total c.written_low-low.result.now c.bytes_of-high.result.now c.written_low-low.ensures c.bytes_of-high.ensures.fence in
    (omega (arith, size, c.requires.room), omega (arith, size, c.requires.room), omega (arith, size, c.requires.room))

pub write_bytes-requires : goal.write_bytes-requires
write_bytes-requires c =
    let size = fences_fit c.args.head.now c.args.total c.written_low-low.result.now c.bytes_of-high.result.now c.written_low-low.ensures c.bytes_of-high.ensures.fence in omega (arith, size, c.requires.room)

pub write_bytes-requires-2 : goal.write_bytes-requires-2
write_bytes-requires-2 c =
    let size = fences_fit c.args.head.now c.args.total c.written_low-low.result.now c.bytes_of-high.result.now c.written_low-low.ensures c.bytes_of-high.ensures.fence in omega (arith, size, c.requires.room)

pub returns : goal.returns
returns c =
    let head = c.args.head.now in
    let total = c.args.total in
    let low = c.written_low-low.result.now in
    let high = c.bytes_of-high.result.now in
    let low_at = 4 + (total + 3) / 4 in
    let high_at = low_at + (length low + 7) / 8 in
    let first = high_at + (length high + 7) / 8 in
    let low_is = c.written_low-low.ensures in
    let high_is = c.bytes_of-high.ensures.fence in
    record {
      draft =
          begun head (record { total = total; count = 0; first = first; used = first }) c.clear.new.out.words c.write_bytes.new.out.words c.write_bytes-2.new.out.words low_at high_at low high low_is high_is
          refl refl refl (ap (λ n. low_at + n) (sym (words_of-length low))) (ap (λ n. high_at + n) (sym (words_of-length high)))
          (omega (arith, fences_fit head total low high low_is high_is, c.requires.room))
          (c.clear.ensures.first ∙ c.first_word_of.ensures) (c.clear.ensures.second ∙ c.second_word_of.ensures)
          (c.clear.ensures.third ∙ third_begun head total low_at high_at first c.third_word_of-third.result low high low_is high_is refl refl refl c.third_word_of-third.ensures)
          c.clear.ensures.rest c.write_bytes.ensures c.write_bytes-2.ensures;
      total = refl;
    }
