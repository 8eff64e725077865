-- So far they are the same.
use Rattle.std.proofs.Common.{◌≡◌, take, length}
use Rattle.hc_meaning.proofs.reference.comparison.same_rows.Given as goal

abbrev pub invariant-loop-i : goal.invariant-loop-i
invariant-loop-i l = record { alike : take l.i l.a ≡ take l.i l.b; long : length l.a ≡ length l.b }
