-- The entry's first word tells it.
use Rattle.std.proofs.Common.{◌∙◌, ap, get_or, arith}
use Rattle.hc_page.specs.Reading.{key_length}
use Rattle.hc_page.proofs.Entries.{entry_read}
use Rattle.hc_page.proofs.Sizes.{words_read}
use Rattle.hc_split.proofs.reading.key_len.Goals as goal

pub offset_bounds-page-place : goal.offset_bounds-page-place
offset_bounds-page-place c = let h = c.requires.entry in let r = words_read c.args.page.now.words h.0 c.args.slot h.1 h.2 h.3 in omega (arith, r.some, c.place.ensures)

pub bounds-page-place : goal.bounds-page-place
bounds-page-place c = let h = c.requires.entry in let r = words_read c.args.page.now.words h.0 c.args.slot h.1 h.2 h.3 in omega (arith, r.some, c.place.ensures)

pub returns : goal.returns
returns c = record {
  len = λ d e page there.
      let words = c.args.page.now.words in
      let r = entry_read words d c.args.slot e page there in
      c.key_len_in.ensures
      ∙ (ap (λ l. key_length l (get_or words c.place.result 0)) (c.level.ensures.level d page)
      ∙ (ap (λ p. key_length d.level (get_or words p 0)) (c.place.ensures ∙ r.place) ∙ r.key_len));
}
