-- The copies so far are those of the list.
use Rattle.std.proofs.Common.{◌≡◌, take}
use Rattle.hc_bind.proofs.copying.+copied.Given as goal

abbrev pub invariant-all-loop-e : goal.invariant-all-loop-e
invariant-all-loop-e l = l.found ≡ take l.e-index l.list
