-- No source so far is called so.
use Rattle.std.proofs.Common.{◌≡◌, map, take, false}
use Rattle.std.specs.List.{list_any}
use Rattle.hc_schema.specs.Binding.Names.{same_name}
use Rattle.hc_bind.proofs.scope.is_among.Given as goal

abbrev pub invariant-loop-source : goal.invariant-loop-source
invariant-loop-source l = list_any (λ source. same_name source l.name) (map (λ source. source.now) (take l.source-index l.sources)) ≡ false
