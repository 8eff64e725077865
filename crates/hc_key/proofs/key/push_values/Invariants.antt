-- The values so far are written.
use Rattle.std.proofs.Common.{◌≡◌, ◌++◌, take}
use Rattle.hc_key.specs.Keys.{list_bytes}
use Rattle.hc_key.proofs.key.push_values.Given as goal

abbrev pub invariant-loop-v : goal.invariant-loop-v
invariant-loop-v l = l.out.items ≡ l.fn.out.items ++ list_bytes (take l.v-index l.values)
