-- The entries go on to the page's end, and then all are there.
use Rattle.std.proofs.Common.{◌++◌, drop, ◌∙◌}
use Rattle.hc_page.specs.Puts.{with_entries}
use Rattle.hc_page.proofs.Entries.{count_is}
use Rattle.hc_page.proofs.Ranges.{ended}
use Rattle.hc_page.proofs.rewrite.end_with.Goals as goal

pub finish-requires : goal.finish-requires
finish-requires c =
    let h = c.requires.end in
    record {
      whole = (
        with_entries h.0 (h.1 ++ drop c.args.after h.0.entries),
        ended c.args.page.now.words c.args.after c.count.result c.args.draft c.copy_range-draft.result c.args.out.now.words c.copy_range-draft.new.out.words c.copy_range-draft.ensures.total c.copy_range-draft.ensures.draft
            h.0 h.1 (c.count.ensures ∙ count_is c.args.page.now.words h.0 h.2.page) h.2,
      );
    }

pub returns : goal.returns
returns c = record {
  page = λ d es can.
      c.finish.ensures.page (with_entries d (es ++ drop c.args.after d.entries))
      (ended c.args.page.now.words c.args.after c.count.result c.args.draft c.copy_range-draft.result c.args.out.now.words c.copy_range-draft.new.out.words c.copy_range-draft.ensures.total c.copy_range-draft.ensures.draft
      d es (c.count.ensures ∙ count_is c.args.page.now.words d can.page) can);
}
