use Rattle.std.proofs.Common.{ℕ, List, take}
use Rattle.hc_range.specs.Ranges.{InAny}
use Rattle.hc_reads.proofs.included.includes_all.Given as goal

-- what was looked at so far is in the log
abbrev pub invariant-loop-range : goal.invariant-loop-range
invariant-loop-range l = (key : List ℕ) → InAny (take l.range-index l.ranges) key → InAny l.log key
