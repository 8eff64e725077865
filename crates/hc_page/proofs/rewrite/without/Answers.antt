-- The entries before the one that goes, and those after it.
use Rattle.std.proofs.Common.{take, ◌∙◌}
use Rattle.hc_page.proofs.Entries.{count_is}
use Rattle.hc_page.proofs.Changed.{can_begin_without, can_end_without}
use Rattle.hc_page.proofs.rewrite.without.Goals as goal

pub begin_with-draft-requires : goal.begin_with-draft-requires
begin_with-draft-requires c =
    let h = c.requires.there in
    record { begin = (h.0, can_begin_without c.args.page.now.words c.args.slot c.count.result h.0 h.1 (c.count.ensures ∙ count_is c.args.page.now.words h.0 h.1.page)) }

pub end_with-requires : goal.end_with-requires
end_with-requires c =
    let h = c.requires.there in
    let n = c.count.ensures ∙ count_is c.args.page.now.words h.0 h.1.page in
    record {
      end = (
        h.0,
        take c.args.slot h.0.entries,
        can_end_without c.args.page.now.words c.args.slot c.count.result c.begin_with-draft.result c.begin_with-draft.new.out.words h.0 h.1 n c.begin_with-draft.ensures.total
            (c.begin_with-draft.ensures.draft h.0 (can_begin_without c.args.page.now.words c.args.slot c.count.result h.0 h.1 n)),
      );
    }

pub returns : goal.returns
returns c = record {
  page = λ d can.
      let n = c.count.ensures ∙ count_is c.args.page.now.words d can.page in
      c.end_with.ensures.page d (take c.args.slot d.entries)
      (can_end_without c.args.page.now.words c.args.slot c.count.result c.begin_with-draft.result c.begin_with-draft.new.out.words d can n c.begin_with-draft.ensures.total
      (c.begin_with-draft.ensures.draft d (can_begin_without c.args.page.now.words c.args.slot c.count.result d can n)));
}
