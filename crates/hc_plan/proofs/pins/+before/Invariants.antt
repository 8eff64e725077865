-- The expressions so far are before the offset.
use Rattle.std.proofs.Common.{◌≡◌, true, map, take}
use Rattle.hc_schema.specs.Paths.{facts, all_before}
use Rattle.hc_plan.proofs.pins.+before.Given as goal

abbrev pub invariant-are_before-loop-e : goal.invariant-are_before-loop-e
invariant-are_before-loop-e l = all_before (map (facts l.fn.offset) (take l.e-index l.list)) ≡ true
