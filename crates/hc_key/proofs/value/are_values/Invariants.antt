-- The values so far are values.
use Rattle.std.proofs.Common.{take}
use Rattle.hc_value.specs.Values.{AreValues}
use Rattle.hc_key.proofs.value.are_values.Given as goal

abbrev pub invariant-loop-v : goal.invariant-loop-v
invariant-loop-v l = AreValues (take l.v-index l.values)
