-- The rows so far are told.
use Rattle.std.proofs.Common.{◌≡◌, map, take, Ok}
use Rattle.hc_schema.specs.Binding.Faults.{each}
use Rattle.hc_schema.specs.Binding.Changes.{new_row}
use Rattle.hc_bind.specs.Places.{placed_of}
use Rattle.hc_bind.proofs.change.new_rows.Given as goal

abbrev pub invariant-loop-row : goal.invariant-loop-row
invariant-loop-row l = each (map (new_row (map placed_of l.places)) (take l.row-index l.rows)) ≡ Ok l.found
