-- The columns so far are told.
use Rattle.std.proofs.Common.{◌≡◌, map, take, Ok}
use Rattle.std.specs.Option.{option_map}
use Rattle.hc_schema.specs.Binding.Faults.{walk}
use Rattle.hc_bind.specs.Scopes.{slot_of}
use Rattle.hc_bind.specs.Settings.{read_on, answer_of, star_if}
use Rattle.hc_bind.proofs.query.push_star.Given as goal

abbrev pub invariant-loop-slot : goal.invariant-loop-slot
invariant-loop-slot l =
    walk (λ before slot. star_if (read_on l.setting).grouping (option_map (λ s. s.now) l.of) before (slot_of slot)) (map answer_of l.fn.out.items) (take l.slot-index l.slots)
    ≡ Ok (map answer_of l.out.items)
