-- The bytes so far are digits.
use Rattle.std.proofs.Common.{take}
use Rattle.std.specs.List.{AllByRecursion}
use Rattle.hc_meaning.specs.Front.{IsDigit}
use Rattle.hc_top.proofs.script.split_digits.Given as goal

abbrev pub invariant-loop-i : goal.invariant-loop-i
invariant-loop-i l = AllByRecursion IsDigit (take l.i l.bytes)
