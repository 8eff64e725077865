-- The values so far are those of the columns so far.
use Rattle.std.proofs.Common.{◌≡◌, map, take}
use Rattle.hc_schema.specs.Cells.{value_at}
use Rattle.hc_schema.proofs.row.indexed_values.Given as goal

abbrev pub invariant-loop-k : goal.invariant-loop-k
invariant-loop-k l = l.found ≡ map (value_at l.values) (take l.k-index l.columns)
