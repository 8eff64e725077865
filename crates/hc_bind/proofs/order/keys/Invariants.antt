-- The keys so far are told.
use Rattle.std.proofs.Common.{◌≡◌, map, take, Ok}
use Rattle.hc_schema.specs.Binding.Faults.{each}
use Rattle.hc_schema.specs.Binding.Queries.{sorted_by}
use Rattle.hc_bind.specs.Settings.{read_on}
use Rattle.hc_bind.specs.Sorted.{items_of}
use Rattle.hc_bind.proofs.order.keys.Given as goal

abbrev pub invariant-loop-t : goal.invariant-loop-t
invariant-loop-t l = each (map (sorted_by (read_on l.setting) l.sought.distinct (items_of l.sought)) (take l.t-index l.terms)) ≡ Ok l.found
