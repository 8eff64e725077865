-- The columns so far come after those in scope.
use Rattle.std.proofs.Common.{◌≡◌, ◌++◌, map, take, length}
use Rattle.hc_schema.specs.Binding.Scopes.{source_slots}
use Rattle.hc_bind.specs.Scopes.{slot_of}
use Rattle.hc_bind.proofs.scope.push_slots.Given as goal

abbrev pub invariant-loop-column : goal.invariant-loop-column
invariant-loop-column l =
    map slot_of l.out.items ≡ map slot_of l.fn.out.items ++ source_slots l.source (length l.fn.out.items) (take l.column-index l.columns)
