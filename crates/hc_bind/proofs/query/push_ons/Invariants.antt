-- The conditions so far are told.
use Rattle.std.proofs.Common.{◌≡◌, take, Ok}
use Rattle.std.specs.List.{flat_map}
use Rattle.std.specs.Option.{option_to_list}
use Rattle.hc_schema.specs.Binding.Faults.{walk}
use Rattle.hc_schema.specs.Binding.Changes.{with_condition}
use Rattle.hc_bind.specs.Scopes.{seen}
use Rattle.hc_bind.proofs.query.push_ons.Given as goal

abbrev pub invariant-loop-from : goal.invariant-loop-from
invariant-loop-from l = walk (with_condition (seen l.scope)) l.fn.out.items (flat_map (λ from. option_to_list from.on) (take l.from-index l.tables)) ≡ Ok l.out.items
