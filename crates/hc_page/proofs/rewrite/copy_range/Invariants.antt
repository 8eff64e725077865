-- The entries up to a number are copied.
use Rattle.std.proofs.Common.{◌≡◌, ◌-◌, take}
use Rattle.hc_base.specs.Content.{Content}
use Rattle.hc_page.specs.Drafts.{IsDraft, with_last}
use Rattle.hc_page.specs.Puts.{CanCopyRange}
use Rattle.hc_page.proofs.Ranges.{range}
use Rattle.hc_page.proofs.rewrite.copy_range.Given as goal

abbrev pub invariant-entries : goal.invariant-entries
invariant-entries l = record {
  total : l.longer.total ≡ l.initial.longer.total;
  drafted : (c d : Content) → CanCopyRange l.page.words l.from l.to l.initial.longer l.initial.out.words c d → IsDraft l.longer l.out.words (with_last c (take (l.slot - l.from) (range d.entries l.from l.to)));
}
