-- The bytes so far are ordinary.
use Rattle.std.proofs.Common.{take}
use Rattle.hc_lex.specs.Statements.{AreOrdinary}
use Rattle.hc_lex.proofs.statements.skip_ordinary.Given as goal

abbrev pub invariant-loop-i : goal.invariant-loop-i
invariant-loop-i l = AreOrdinary (take l.i l.bytes)
