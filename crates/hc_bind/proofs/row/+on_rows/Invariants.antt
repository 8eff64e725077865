-- The expressions so far are told.
use Rattle.std.proofs.Common.{◌≡◌, Ok, map, take}
use Rattle.hc_schema.specs.Binding.Faults.{each}
use Rattle.hc_schema.specs.Binding.Expressions.{reading_of}
use Rattle.hc_bind.specs.Scopes.{seen}
use Rattle.hc_bind.proofs.row.+on_rows.Given as goal

abbrev pub invariant-each_on_rows-loop-e : goal.invariant-each_on_rows-loop-e
invariant-each_on_rows-loop-e l = each (map (λ e. (reading_of (seen l.scope) e).on_rows) (take l.e-index l.list)) ≡ Ok l.found.items
