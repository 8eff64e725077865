-- The entries so far are copied.
use Rattle.std.proofs.Common.{◌-◌}
use Rattle.hc_page.specs.Told.{HasCopied}
use Rattle.hc_page.proofs.validity.copy_all.Given as goal

abbrev pub invariant-entries : goal.invariant-entries
invariant-entries l = HasCopied l.page.words l.head l.copied l.out.words

abbrev pub decreases-entries : goal.decreases-entries
decreases-entries l = l.copied.draft.total - l.copied.draft.count
