-- The types so far are counted, and those are values.
use Rattle.std.proofs.Common.{◌≡◌, take, length}
use Rattle.hc_value.specs.Values.{AreValues}
use Rattle.hc_record.specs.Record.{types_of}
use Rattle.hc_record.proofs.encoding.types_len.Given as goal

abbrev pub invariant-loop-v : goal.invariant-loop-v
invariant-loop-v l = record { len : l.len ≡ length (types_of (take l.v-index l.values)); values : AreValues (take l.v-index l.values) }
