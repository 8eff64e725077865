-- The numbers so far ascend.
use Rattle.std.proofs.Common.{◌<◌, ◌+◌, ℕ, get_or}
use Rattle.hc_meaning.specs.Runs.Cut.{Script}
use Rattle.hc_judge.proofs.front.ascend.Given as goal

abbrev pub invariant-loop-i : goal.invariant-loop-i
invariant-loop-i l = (k : ℕ) (d : Script) → k + 1 < l.i → (get_or l.scripts k d).conn < (get_or l.scripts (k + 1) d).conn
