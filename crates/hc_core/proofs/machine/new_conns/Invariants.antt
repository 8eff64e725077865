use Rattle.std.proofs.Common.{◌≡◌, [], replicate}
use Rattle.hc_core.proofs.machine.new_conns.Given as goal

abbrev pub invariant-loop-number : goal.invariant-loop-number
invariant-loop-number l = l.all.items ≡ replicate l.number []
