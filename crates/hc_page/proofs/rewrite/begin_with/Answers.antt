-- The entries come from the page's beginning.
use Rattle.std.proofs.Common.{[], length, subst, ap, arith}
use Rattle.hc_page.specs.Drafts.{IsDraft}
use Rattle.hc_page.specs.Puts.{with_entries}
use Rattle.hc_base.specs.Layout.{all_words}
use Rattle.hc_page.proofs.Ranges.{from_start}
use Rattle.hc_page.proofs.rewrite.begin_with.Goals as goal

pub returns-clause-draft : goal.returns-clause-draft
returns-clause-draft c = λ d can.
    let first = c.begin_as-draft.ensures.draft d can.page in
    subst (λ es. IsDraft c.copy_range.result c.copy_range.new.out.words (with_entries d es)) (from_start d.entries c.args.before)
    (c.copy_range.ensures.draft (with_entries d []) d
    (record {
      drafted = first;
      page = can.page;
      order = omega arith;
      in_list = can.in_list;
      count = omega (arith, first.count, can.count, c.begin_as-draft.ensures.total);
      room = omega (arith, first.used, first.first, can.room, c.begin_as-draft.ensures.total, ap (λ es. length (all_words es)) (from_start d.entries c.args.before));
    }))
