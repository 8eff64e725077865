-- The kind of the page tells the kind of the entry.
use Rattle.std.proofs.Common.{◌≡◌, sym, subst, ◌∙◌}
use Rattle.hc_base.specs.Content.{IsEntryOf}
use Rattle.hc_page.specs.Drafts.{entry_of}
use Rattle.hc_page.specs.Reading.{level_in}
use Rattle.hc_page.proofs.Entries.{level_is}
use Rattle.hc_page.proofs.told.any_entry.Goals as goal

pub returns-in_ok-version_told : goal.returns-in_ok-version_told
returns-in_ok-version_told c =
    let words = c.args.page.now.words in
    let leaf : level_in words ≡ 0 = sym c.level.ensures ∙ c.if-level-eq0.true in
    record {
      within = subst (λ l. IsEntryOf l (entry_of c.in_ok-version_told.field-0)) (sym leaf) c.in_ok-version_told.ensures.within;
      is = λ d e page there. c.in_ok-version_told.ensures.is d c.args.slot e page (sym (level_is words d page) ∙ leaf) there c.place-at.ensures;
    }
