-- The columns so far have their places.
use Rattle.std.proofs.Common.{◌≡◌, map, take}
use Rattle.hc_schema.specs.Binding.Changes.{all_placed}
use Rattle.hc_bind.specs.Places.{placed_of}
use Rattle.hc_bind.proofs.change.all_placed.Given as goal

abbrev pub invariant-loop-i : goal.invariant-loop-i
invariant-loop-i l = map placed_of l.found.items ≡ all_placed 0 (take l.i l.columns)
