-- The values so far are copied.
use Rattle.std.proofs.Common.{◌≡◌, take}
use Rattle.hc_schema.proofs.row.stored_values.Given as goal

abbrev pub invariant-loop-value : goal.invariant-loop-value
invariant-loop-value l = l.stored ≡ take l.value-index l.values
