-- All types can be read exactly where those that are left can.
use Rattle.std.proofs.Common.{◌≤◌, length}
use Rattle.hc_record.proofs.Types.{SameTest}
use Rattle.hc_record.proofs.reader.test_types.Given as goal

abbrev pub invariant-loop-rest : goal.invariant-loop-rest
invariant-loop-rest l = record { same : SameTest l.stop l.rest l.bytes; within : length l.rest ≤ l.stop }

abbrev pub decreases-loop-rest : goal.decreases-loop-rest
decreases-loop-rest l = length l.rest
