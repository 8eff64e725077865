-- Nothing is needed of an empty leaf.
use Rattle.std.proofs.Common.{refl, sym, ◌∙◌}
use Rattle.hc_page.proofs.Open.{empty_leaf, empty_content}
use Rattle.hc_page_bench.proofs.leaf.empty.Goals as goal

pub returns : goal.returns
returns c =
    let drafted = c.begin-draft.ensures.draft in (
      empty_leaf,
      record {
        page = c.finish.ensures.page empty_leaf (drafted, sym drafted.count ∙ sym c.begin-draft.ensures.total, empty_content);
        leaf = refl;
        low = refl;
        high = refl;
      },
    )
