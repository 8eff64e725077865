-- The page has one entry, and its key is empty.
use Rattle.std.proofs.Common.{sym, ◌∙◌}
use Rattle.hc_page.proofs.HeadWords.{page_long}
use Rattle.hc_page.proofs.Open.{first_inner_page, inner_content}
use Rattle.hc_steps.proofs.first.first_inner.Goals as goal

pub finish-requires : goal.finish-requires
finish-requires c =
    let drafted = c.push_child-draft.ensures.draft _ c.begin-draft.ensures.draft in
    record { whole = (first_inner_page, (drafted, sym drafted.count ∙ sym (c.push_child-draft.ensures.total ∙ c.begin-draft.ensures.total), inner_content)) }

pub returns-clause-content : goal.returns-clause-content
returns-clause-content c =
    let drafted = c.push_child-draft.ensures.draft _ c.begin-draft.ensures.draft in
    c.finish.ensures.page first_inner_page (drafted, sym drafted.count ∙ sym (c.push_child-draft.ensures.total ∙ c.begin-draft.ensures.total), inner_content)

pub returns-clause-long : goal.returns-clause-long
returns-clause-long c = page_long c.finish.new.out.words first_inner_page (returns-clause-content c)
