-- The column so far that is meant, if there is one.
use Rattle.std.proofs.Common.{◌≡◌, map, take}
use Rattle.std.specs.List.{filter}
use Rattle.std.specs.Option.{option_map, option_to_list}
use Rattle.hc_schema.specs.Binding.Scopes.{is_meant}
use Rattle.hc_bind.specs.Scopes.{slot_of}
use Rattle.hc_bind.proofs.scope.the_one.Given as goal

abbrev pub invariant-loop-slot : goal.invariant-loop-slot
invariant-loop-slot l =
    filter (is_meant (option_map (λ s. s.now) l.of) l.name) (map slot_of (take l.slot-index l.slots)) ≡ map slot_of (option_to_list l.found)
