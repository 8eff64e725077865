-- The values so far, and those of the types that are left, are all of them.
use Rattle.std.proofs.Common.{◌≡◌, ◌≤◌, length}
use Rattle.hc_record.specs.Reading.{values_of_types}
use Rattle.hc_record.proofs.Types.{with_front}
use Rattle.hc_record.proofs.decoding.values_at.Given as goal

abbrev pub invariant-loop-types : goal.invariant-loop-types
invariant-loop-types l = record {
  same : with_front l.values (values_of_types l.stop l.end l.types l.bodies) ≡ values_of_types l.stop l.end l.fn.types l.fn.bodies;
  within : length l.types ≤ l.stop;
  shorter : length l.bodies ≤ length l.fn.bodies;
}

abbrev pub decreases-loop-types : goal.decreases-loop-types
decreases-loop-types l = length l.types
