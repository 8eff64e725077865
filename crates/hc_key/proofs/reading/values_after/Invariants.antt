-- What was read, and what is left.
use Rattle.std.proofs.Common.{◌≡◌, ◌++◌, length}
use Rattle.hc_value.specs.Values.{AreValues}
use Rattle.hc_key.specs.Keys.{key_bytes}
use Rattle.hc_key.proofs.reading.values_after.Given as goal

abbrev pub invariant-loop-class : goal.invariant-loop-class
invariant-loop-class l = record {
  written : l.key ≡ key_bytes l.tree l.values ++ l.left;
  are : AreValues l.values;
}

abbrev pub decreases-loop-class : goal.decreases-loop-class
decreases-loop-class l = length l.left
