use Rattle.std.proofs.Common.{◌≡◌, ◌++◌}
use Rattle.hc_core.proofs.copying.push_all.Given as goal

-- those moved so far are at the end
abbrev pub invariant-loop-cell : goal.invariant-loop-cell
invariant-loop-cell l = l.out ≡ l.fn.out ++ l.yielded
