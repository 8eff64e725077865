-- No expression so far has an aggregate.
use Rattle.std.proofs.Common.{◌≡◌, map, take, false}
use Rattle.hc_schema.specs.Binding.Expressions.{has_aggregate, any_of}
use Rattle.hc_bind.proofs.aggregate.+has_aggregate.Given as goal

abbrev pub invariant-any_has-loop-e : goal.invariant-any_has-loop-e
invariant-any_has-loop-e l = any_of (map has_aggregate (take l.e-index l.list)) ≡ false
