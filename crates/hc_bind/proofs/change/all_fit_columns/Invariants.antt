-- The values so far fit, and the others are left.
use Rattle.std.proofs.Common.{◌≡◌, map, drop}
use Rattle.hc_schema.specs.Binding.Changes.{all_fit_columns}
use Rattle.hc_bind.specs.Places.{placed_of}
use Rattle.hc_bind.proofs.change.all_fit_columns.Given as goal

abbrev pub invariant-loop-i : goal.invariant-loop-i
invariant-loop-i l = all_fit_columns (map placed_of l.places) l.row ≡ all_fit_columns (map placed_of (drop l.i l.places)) (drop l.i l.row)
