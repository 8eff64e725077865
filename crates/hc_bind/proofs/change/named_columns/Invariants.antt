-- The names so far have their columns.
use Rattle.std.proofs.Common.{◌≡◌, [], map, take, Ok}
use Rattle.hc_schema.specs.Binding.Faults.{walk}
use Rattle.hc_schema.specs.Binding.Changes.{with_column}
use Rattle.hc_bind.specs.Places.{placed_of}
use Rattle.hc_bind.proofs.change.named_columns.Given as goal

abbrev pub invariant-loop-name : goal.invariant-loop-name
invariant-loop-name l = walk (with_column l.columns) [] (take l.name-index l.names) ≡ Ok (map placed_of l.found.items)
