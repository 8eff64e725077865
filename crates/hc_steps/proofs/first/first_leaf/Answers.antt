-- Nothing is needed of an empty leaf.
use Rattle.std.proofs.Common.{sym, ◌∙◌}
use Rattle.hc_page.proofs.HeadWords.{page_long}
use Rattle.hc_page.proofs.Open.{empty_leaf, empty_content}
use Rattle.hc_steps.proofs.first.first_leaf.Goals as goal

pub returns-clause-content : goal.returns-clause-content
returns-clause-content c =
    let drafted = c.begin-draft.ensures.draft in c.finish.ensures.page empty_leaf (drafted, sym drafted.count ∙ sym c.begin-draft.ensures.total, empty_content)

pub returns-clause-long : goal.returns-clause-long
returns-clause-long c = page_long c.finish.new.out.words empty_leaf (returns-clause-content c)
