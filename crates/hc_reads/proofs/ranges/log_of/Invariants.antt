use Rattle.std.proofs.Common.{ℕ, List, take, ◌↔◌}
use Rattle.hc_range.specs.Ranges.{InAny}
use Rattle.hc_reads.proofs.ranges.log_of.Given as goal

-- the log has the keys of the ranges so far
abbrev pub invariant-loop-range : goal.invariant-loop-range
invariant-loop-range l = (key : List ℕ) → InAny l.log key ↔ InAny (take l.range-index l.ranges) key
