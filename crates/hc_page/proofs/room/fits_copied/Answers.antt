-- The other page has the entry's words.
use Rattle.std.proofs.Common.{sym, ◌∙◌, arith}
use Rattle.hc_page.proofs.Sizes.{words_read, copied_is}
use Rattle.hc_page.proofs.room.fits_copied.Goals as goal

pub offset_bounds-from-first : goal.offset_bounds-from-first
offset_bounds-from-first c = let h = c.requires.there in let r = words_read c.args.from.now.words h.0 c.args.slot h.1 h.2.page h.2.there in omega (arith, r.some, c.place-first.ensures)

pub bounds-from-first : goal.bounds-from-first
bounds-from-first c = let h = c.requires.there in let r = words_read c.args.from.now.words h.0 c.args.slot h.1 h.2.page h.2.there in omega (arith, r.some, c.place-first.ensures)

pub returns : goal.returns
returns c = record {
  fits = λ d other e page has.
      let words = c.args.from.now.words in
      let mine = copied_is words c.args.slot c.place-first.result c.level.result c.entry_len.result e (words_read words other c.args.slot e has.page has.there) (omega arith) c.level.ensures c.place-first.ensures c.entry_len.ensures in
      c.has_room.ensures.room d e page (sym (c.as_slice.ensures.bytes ∙ c.entry_key-key.ensures.key other e has)) mine.0;
}
