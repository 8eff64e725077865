-- The entry's words are read from the page, and come after those of the draft.
use Rattle.std.proofs.Common.{[], ◌∷◌, length, sym, ap, subst, ◌∙◌, arith}
use Rattle.hc_base.specs.Layout.{entry_words}
use Rattle.hc_page.specs.Drafts.{IsDraft, IsWritten, with_last, longer}
use Rattle.hc_page.proofs.Drafting.{directory-small, draft_more}
use Rattle.hc_page.proofs.Sizes.{words_read, copied_is}
use Rattle.hc_page.proofs.writer.push_copied.Goals as goal

pub bounds-page-from : goal.bounds-page-from
bounds-page-from c = let h = c.requires.room in let r = words_read c.args.page.now.words h.0 c.args.slot h.1 h.2 h.3 in omega (arith, r.some, c.place-from.ensures)

pub offset_bounds-page-from : goal.offset_bounds-page-from
offset_bounds-page-from c = let h = c.requires.room in let r = words_read c.args.page.now.words h.0 c.args.slot h.1 h.2 h.3 in omega (arith, r.some, c.place-from.ensures)

pub enter-requires-clause-small : goal.enter-requires-clause-small
enter-requires-clause-small c = let h = c.requires.room in directory-small c.args.draft c.args.out.now.words h.4.0 h.4.1 h.4.2

pub copy_words-requires-clause-from : goal.copy_words-requires-clause-from
copy_words-requires-clause-from c =
    let h = c.requires.room in
    let r = words_read c.args.page.now.words h.0 c.args.slot h.1 h.2 h.3 in
    (copied_is c.args.page.now.words c.args.slot c.place-from.result c.level.result c.entry_len-len.result h.1 r (omega arith) c.level.ensures c.place-from.ensures c.entry_len-len.ensures).2

pub copy_words-requires-clause-at : goal.copy_words-requires-clause-at
copy_words-requires-clause-at c =
    let h = c.requires.room in
    let r = words_read c.args.page.now.words h.0 c.args.slot h.1 h.2 h.3 in
    let same = copied_is c.args.page.now.words c.args.slot c.place-from.result c.level.result c.entry_len-len.result h.1 r (omega arith) c.level.ensures c.place-from.ensures c.entry_len-len.ensures in
    omega (arith, same.0, h.4.3)

pub returns : goal.returns
returns c = record {
  draft = λ d page_content e is page there.
      let h = c.requires.room in
      let words = c.args.page.now.words in
      let mine = copied_is words c.args.slot c.place-from.result c.level.result c.entry_len-len.result e (words_read words page_content c.args.slot e page there) (omega arith) c.level.ensures c.place-from.ensures c.entry_len-len.ensures in
      let first = copied_is words c.args.slot c.place-from.result c.level.result c.entry_len-len.result h.1 (words_read words h.0 c.args.slot h.1 h.2 h.3) (omega arith) c.level.ensures c.place-from.ensures c.entry_len-len.ensures in
      let writes = subst (λ ws. IsWritten c.enter.new.out.words c.copy_words.new.out.words c.args.draft.used ws) mine.1 c.copy_words.ensures in
      let whole : IsDraft (longer c.args.draft (length (entry_words e))) c.copy_words.new.out.words (with_last d (e ∷ [])) =
      draft_more c.args.draft c.args.out.now.words c.enter.new.out.words c.copy_words.new.out.words d e is h.4.2 (omega (arith, mine.0, first.0, h.4.3)) c.enter.ensures.long c.enter.ensures.place writes in
      subst (λ draft. IsDraft draft c.copy_words.new.out.words (with_last d (e ∷ [])))
      (ap (λ n. longer c.args.draft n) (sym mine.0) ∙ sym c.longer.ensures) whole;
  total = ap (λ draft. draft.total) c.longer.ensures;
}
