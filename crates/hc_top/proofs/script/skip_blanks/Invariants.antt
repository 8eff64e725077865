-- The bytes so far are blanks.
use Rattle.std.proofs.Common.{take}
use Rattle.hc_meaning.specs.Input.{IsBlank}
use Rattle.hc_top.proofs.script.skip_blanks.Given as goal

abbrev pub invariant-loop-i : goal.invariant-loop-i
invariant-loop-i l = IsBlank (take l.i l.bytes)
