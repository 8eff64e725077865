-- The bodies so far are written.
use Rattle.std.proofs.Common.{◌≡◌, ◌++◌, take}
use Rattle.hc_record.specs.Record.{bodies_of}
use Rattle.hc_record.proofs.encoding.push_bodies.Given as goal

abbrev pub invariant-loop-v : goal.invariant-loop-v
invariant-loop-v l = l.out.items ≡ l.fn.out.items ++ bodies_of (take l.v-index l.values)
