use Rattle.std.proofs.Common.{◌≡◌}
use Rattle.hc_txn.specs.Marks.{kept_from}
use Rattle.hc_txn.proofs.marks.has_mark.Given as goal

abbrev pub invariant-loop-mark : goal.invariant-loop-mark
invariant-loop-mark l = kept_from l.name l.mark-iterator ≡ kept_from l.name l.marks
