-- The bytes of the values so far are counted, up to the greatest number.
use Rattle.std.proofs.Common.{◌≡◌, ◌+◌, ◌-◌, ◌^◌, min, take, length}
use Rattle.hc_key.specs.Keys.{list_bytes}
use Rattle.hc_key.proofs.length.key_len.Given as goal

abbrev pub invariant-loop-v : goal.invariant-loop-v
invariant-loop-v l = l.len ≡ min (4 + length (list_bytes (take l.v-index l.values))) (2 ^ 64 - 1)
