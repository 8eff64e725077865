-- The keys before `low` are below the sought one, and those from `high` on are above it.
use Rattle.std.proofs.Common.{◌-◌}
use Rattle.hc_base.specs.Content.{Content, keys}
use Rattle.hc_base.specs.Layout.{IsPage}
use Rattle.hc_page.proofs.Halving.{IsBetween}
use Rattle.hc_page.proofs.search.find_sought.Given as goal

abbrev pub invariant-halves : goal.invariant-halves
invariant-halves l = (c : Content) → IsPage l.page.words c → IsBetween (keys c.entries) l.key.bytes.now l.low l.high

abbrev pub decreases-halves : goal.decreases-halves
decreases-halves l = l.high - l.low
