-- What is read after the bytes so far is what is read of all of them.
use Rattle.std.proofs.Common.{◌≡◌, ◌≤◌, ◌<◌, ◌^◌, ◌*◌, ◌-◌, length}
use Rattle.hc_record.specs.Varint.{read_varint}
use Rattle.hc_record.proofs.varint.split_varint.Given as goal

abbrev pub invariant-loop : goal.invariant-loop
invariant-loop l = record { same : read_varint (8 - l.counter) l.n l.rest ≡ read_varint 8 0 l.bytes; fits : l.n < 2 ^ (7 * l.counter); left : length l.rest ≤ length l.bytes }
