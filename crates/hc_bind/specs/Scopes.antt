-- The scope that the program keeps, as the rules see it.
use Rattle.std.specs.Prelude.{map}
use Rattle.hc_bind.specs.declared.scope.Scope.{Scope}
use Rattle.hc_bind.specs.declared.scope.Slot.{Slot}
use Rattle.hc_schema.specs.Binding.Scopes as rule

abbrev pub slot_of : Slot → rule.Slot
slot_of slot = record { source = slot.source.now; name = slot.name.now; class = slot.class; place = slot.place }

abbrev pub seen : Scope → rule.Scope
seen scope = record { sources = map (λ name. name.now) scope.sources.items; slots = map slot_of scope.slots.items }
