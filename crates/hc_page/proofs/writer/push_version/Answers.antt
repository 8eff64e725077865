-- The entry's words come after those of the draft.
use Rattle.std.proofs.Common.{[], ◌∷◌, length, sym, ap, subst, ◌∙◌}
use Rattle.hc_base.specs.Layout.{entry_words}
use Rattle.hc_page.specs.Drafts.{IsDraft, with_last, longer, entry_of}
use Rattle.hc_page.proofs.Drafting.{directory-small, draft_more}
use Rattle.hc_page.proofs.writer.push_version.Goals as goal

pub enter-requires-clause-small : goal.enter-requires-clause-small
enter-requires-clause-small c = let h = c.requires.room in directory-small c.args.draft c.args.out.now.words h.0 h.1 h.2

pub returns : goal.returns
returns c = record {
  draft = λ d is.
      let h = c.requires.room in
      let e = entry_of c.args.new.now in
      let whole : IsDraft (longer c.args.draft (length (entry_words e))) c.write_version-len.new.out.words (with_last d (e ∷ [])) =
      draft_more c.args.draft c.args.out.now.words c.enter.new.out.words c.write_version-len.new.out.words d e is h.2 h.3 c.enter.ensures.long c.enter.ensures.place c.write_version-len.ensures.written in
      subst (λ draft. IsDraft draft c.write_version-len.new.out.words (with_last d (e ∷ [])))
      (ap (λ n. longer c.args.draft n) (sym c.write_version-len.ensures.len) ∙ sym c.longer.ensures) whole;
  total = ap (λ draft. draft.total) c.longer.ensures;
}
