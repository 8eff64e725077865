-- The bytes so far belong to the run.
use Rattle.std.proofs.Common.{take}
use Rattle.hc_lex.specs.Characters.{IsRun}
use Rattle.hc_lex.proofs.character.split_run.Given as goal

abbrev pub invariant-loop-i : goal.invariant-loop-i
invariant-loop-i l = IsRun l.run (take l.i l.bytes)
