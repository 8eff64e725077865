use Rattle.std.proofs.Common.{◌≡◌, ℕ, ◌<◌, ◌≤◌, false, length}
use Rattle.hc_core.specs.Commits.{writes_at}
use Rattle.hc_core.specs.Running.{holds_key}
use Rattle.hc_core.proofs.log.newest_from.Given as goal

-- no entry from the place on puts the key
abbrev pub invariant-loop-place : goal.invariant-loop-place
invariant-loop-place l = record {
  within : l.place ≤ length l.log;
  none : (other : ℕ) → l.place ≤ other → other < length l.log → holds_key l.key (writes_at l.log other) ≡ false;
}

abbrev pub decreases-loop-place : goal.decreases-loop-place
decreases-loop-place l = l.place
