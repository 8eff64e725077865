-- The expressions so far are written.
use Rattle.std.proofs.Common.{◌≡◌, ◌++◌, map, take}
use Rattle.std.specs.List.{concat}
use Rattle.hc_schema.specs.Binding.Writing.{written}
use Rattle.hc_bind.proofs.writing.+written.Given as goal

abbrev pub invariant-push_each-loop-e : goal.invariant-push_each-loop-e
invariant-push_each-loop-e l = l.out.items ≡ l.fn.out.items ++ concat (map written (take l.e-index l.list))
