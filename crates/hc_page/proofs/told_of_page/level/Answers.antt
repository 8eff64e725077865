use Rattle.std.proofs.Common.{◌∙◌}
use Rattle.hc_page.proofs.Entries.{level_is}
use Rattle.hc_page.proofs.told_of_page.level.Goals as goal

pub returns : goal.returns
returns c = record { level = λ d page. c.level.ensures ∙ level_is c.args.page.now.words d page }
