use Rattle.std.proofs.Common.{◌∙◌}
use Rattle.hc_page.proofs.Entries.{count_is}
use Rattle.hc_page.proofs.told_of_page.count.Goals as goal

pub returns : goal.returns
returns c = record { count = λ d page. c.count.ensures ∙ count_is c.args.page.now.words d page }
