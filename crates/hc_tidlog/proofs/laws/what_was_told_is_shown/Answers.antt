-- By the notes that were made.
use Rattle.hc_tidlog.proofs.Shown.{told_shown}
use Rattle.hc_tidlog.proofs.laws.what_was_told_is_shown.Goals as goal

pub returns : goal.returns
returns c = told_shown
