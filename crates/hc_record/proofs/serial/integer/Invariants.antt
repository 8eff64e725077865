-- The bits so far are those above the body and its first bytes.
use Rattle.std.proofs.Common.{◌≡◌, ◌+◌, ◌*◌, ◌-◌, ◌^◌, ◌<◌, take, length}
use Rattle.std.specs.Prelude.{fold}
use Rattle.hc_record.specs.Reading.{bits_above}
use Rattle.hc_record.proofs.serial.integer.Given as goal

abbrev pub invariant-loop-byte : goal.invariant-loop-byte
invariant-loop-byte l = record { so_far : l.bits ≡ fold (λ high byte. high * 256 + byte) (bits_above l.bytes) (take l.byte-index l.bytes); fits : l.bits < 256 ^ (8 - length l.bytes + l.byte-index) }
