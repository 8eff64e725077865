-- Columns with their places as the rules see them.
use Rattle.hc_bind.specs.declared.change.Placed.{Placed}
use Rattle.hc_schema.specs.Binding.Changes as rule

abbrev pub placed_of : Placed → rule.Placed
placed_of p = record { column = p.column.now; place = p.place }
