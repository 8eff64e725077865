-- The entry is the page's one or the new one.
use Rattle.std.proofs.Common.{[], ◌∷◌, sym, subst, ◌∙◌}
use Rattle.hc_page.specs.Drafts.{HasRoom, IsDraft, with_last}
use Rattle.hc_page.proofs.Entries.{slice_get_inside}
use Rattle.hc_split.specs.Joined.{entry_added, joined_entries}
use Rattle.hc_split.proofs.Lists.{same_some}
use Rattle.hc_split.proofs.joined.Joined.push.Goals as goal

pub source-requires : goal.source-requires
source-requires c =
    let h = c.requires.room in
    record { there = (h.0, h.2.joined_is, slice_get_inside (joined_entries c.args.self.now h.0) c.args.slot h.1 h.2.there) }

pub push_copied-requires : goal.push_copied-requires
push_copied-requires c =
    let h = c.requires.room in
    let inside = slice_get_inside (joined_entries c.args.self.now h.0) c.args.slot h.1 h.2.there in
    let from = c.in-Page.ensures.source h.0 h.2.joined_is inside in
    record { room = (h.0, h.1, h.2.joined_is.will.page, sym from.0 ∙ h.2.there, h.2.room) }

pub push-requires : goal.push-requires
push-requires c =
    let h = c.requires.room in
    let inside = slice_get_inside (joined_entries c.args.self.now h.0) c.args.slot h.1 h.2.there in
    let is = same_some h.1 (entry_added c.args.self.now.added) (sym h.2.there ∙ c.in-New.ensures.source h.0 h.2.joined_is inside) in
    record {
      entry = (h.0.level, h.2.joined_is.will.entry);
      room = subst (λ e. HasRoom c.args.draft c.args.out.now.words e) is h.2.room;
    }

pub returns-in-Page-clause-draft : goal.returns-in-Page-clause-draft
returns-in-Page-clause-draft c = λ d other e can is.
    let inside = slice_get_inside (joined_entries c.args.self.now d) c.args.slot e can.there in
    let from = c.in-Page.ensures.source d can.joined_is inside in
    c.push_copied.ensures.draft other d e is can.joined_is.will.page (sym from.0 ∙ can.there)

pub returns-in-New-clause-draft : goal.returns-in-New-clause-draft
returns-in-New-clause-draft c = λ d other e can is.
    let inside = slice_get_inside (joined_entries c.args.self.now d) c.args.slot e can.there in
    let same = same_some (entry_added c.args.self.now.added) e (sym (c.in-New.ensures.source d can.joined_is inside) ∙ can.there) in
    subst (λ x. IsDraft c.push.result c.push.new.out.words (with_last other (x ∷ []))) same (c.push.ensures.draft other is)
