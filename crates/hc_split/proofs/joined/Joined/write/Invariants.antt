-- The entries up to a number are written.
use Rattle.std.proofs.Common.{◌≡◌, ◌-◌, take}
use Rattle.hc_base.specs.Content.{Content}
use Rattle.hc_page.specs.Drafts.{IsDraft, started}
use Rattle.hc_page.specs.Puts.{with_entries}
use Rattle.hc_page.proofs.Ranges.{range}
use Rattle.hc_split.specs.Joined.{CanWrite, joined_entries}
use Rattle.hc_split.proofs.joined.Joined.write.Given as goal

abbrev pub invariant-entries : goal.invariant-entries
invariant-entries l = record {
  total : l.draft.total ≡ l.to - l.from;
  drafted : (c : Content) → CanWrite l.self l.head l.from l.to c → IsDraft l.draft l.out.words (with_entries (started l.head) (take (l.slot - l.from) (range (joined_entries l.self c) l.from l.to)));
}
