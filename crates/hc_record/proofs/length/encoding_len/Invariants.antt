-- The types and the bodies so far are counted, up to the greatest number.
use Rattle.std.proofs.Common.{◌≡◌, ◌-◌, ◌^◌, min, take, length}
use Rattle.hc_record.specs.Record.{types_of, bodies_of}
use Rattle.hc_record.proofs.length.encoding_len.Given as goal

abbrev pub invariant-loop-v : goal.invariant-loop-v
invariant-loop-v l = record {
  types : l.types ≡ min (length (types_of (take l.v-index l.values))) (2 ^ 64 - 1);
  bodies : l.bodies ≡ min (length (bodies_of (take l.v-index l.values))) (2 ^ 64 - 1);
}
