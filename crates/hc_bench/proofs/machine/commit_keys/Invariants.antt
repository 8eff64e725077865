use Rattle.std.proofs.Common.{◌+◌, ◌≤◌}
use Rattle.hc_test_desks.specs.Putting.{HasNoneOpen, last_ord}
use Rattle.hc_bench.proofs.machine.commit_keys.Given as goal

-- none is open, and no ordinal is above that of the last turn
abbrev pub invariant-loop-turn : goal.invariant-loop-turn
invariant-loop-turn g l = HasNoneOpen (g.D.Desk.account l.desk) × (last_ord (g.D.Desk.account l.desk) ≤ l.first + l.turn)
