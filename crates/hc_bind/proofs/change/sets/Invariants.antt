-- The SETs so far are told.
use Rattle.std.proofs.Common.{◌≡◌, [], take, Ok}
use Rattle.hc_schema.specs.Binding.Faults.{walk}
use Rattle.hc_schema.specs.Binding.Changes.{with_set}
use Rattle.hc_bind.specs.Scopes.{seen}
use Rattle.hc_bind.proofs.change.sets.Given as goal

abbrev pub invariant-loop-assign : goal.invariant-loop-assign
invariant-loop-assign l = walk (with_set (seen l.scope) l.columns) [] (take l.assign-index l.assigns) ≡ Ok l.found
