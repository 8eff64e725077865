-- The one class so far.
use Rattle.std.proofs.Common.{◌≡◌, take}
use Rattle.hc_schema.specs.Binding.Classes.{one_class}
use Rattle.hc_bind.proofs.class.one_class.Given as goal

abbrev pub invariant-loop-t : goal.invariant-loop-t
invariant-loop-t l = l.one ≡ one_class l.fn.first (take l.t-index l.list)
