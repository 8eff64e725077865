-- The first places of the items so far are known.
use Rattle.std.proofs.Common.{map, take}
use Rattle.hc_bind.specs.Settings.{answer_of}
use Rattle.hc_bind.specs.Sorted.{KnowsItems}
use Rattle.hc_bind.proofs.order.known_items.Given as goal

abbrev pub invariant-loop-i : goal.invariant-loop-i
invariant-loop-i l = KnowsItems l.places (map answer_of (take l.i l.answers))
