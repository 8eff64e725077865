use Rattle.std.proofs.Common.{◌∙◌, sym}
use Rattle.std.specs.Option.{option_map}
use Rattle.hc_schema.specs.Binding.Faults.{Ambiguous}
use Rattle.hc_schema.specs.Binding.Scopes.{is_meant}
use Rattle.hc_bind.specs.Scopes.{slot_of}
use Rattle.hc_bind.proofs.Judging.{told}
use Rattle.hc_bind.proofs.Slots.{two_meant}
use Rattle.hc_bind.proofs.scope.the_one.Goals as goal

pub returns-then-is_some : goal.returns-then-is_some
returns-then-is_some c =
    told c.ambiguous.result (Ambiguous c.args.name.now) _ c.ambiguous.ensures
    (two_meant (is_meant (option_map (λ s. s.now) c.args.of) c.args.name.now) slot_of c.args.name.now c.args.slots.now c.loop-slot.slot-index _ c.loop-slot.found c.loop-slot-test.true c.loop-slot.invariant
    (sym c.is_some.ensures ∙ c.if-is_some.true) (sym c.is_meant.ensures ∙ c.if-is_meant.true))
