use Rattle.std.proofs.Common.{ℕ, ◌+◌, ◌≤◌, length, List, ◌⊎◌, ◌↔◌, vec_capacity, vec_len}
use Rattle.hc_range.specs.Ranges.{InAny, IsNormal}
use Rattle.hc_range.proofs.union.unite_all.Given as goal

-- what is united and what is left of the two lists hold the keys of the two
abbrev pub invariant-loop-range : goal.invariant-loop-range
invariant-loop-range l = record {
  normal : IsNormal l.out.items;
  added : (key : List ℕ) → (InAny l.out.items key ⊎ (InAny l.ranges.items key ⊎ InAny l.others.items key)) ↔ (InAny l.fn.ranges.items key ⊎ InAny l.fn.others.items key);
  room : vec_len l.out + (length l.ranges.items + length l.others.items) ≤ vec_capacity l.out;
}

abbrev pub decreases-loop-range : goal.decreases-loop-range
decreases-loop-range l = length l.ranges.items + length l.others.items
