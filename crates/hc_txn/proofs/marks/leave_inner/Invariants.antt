use Rattle.std.proofs.Common.{◌≡◌, length}
use Rattle.hc_txn.specs.Marks.{kept_from}
use Rattle.hc_txn.proofs.marks.leave_inner.Given as goal

abbrev pub invariant-loop-mark : goal.invariant-loop-mark
invariant-loop-mark l = kept_from l.name l.marks ≡ kept_from l.name l.fn.marks

abbrev pub decreases-loop-mark : goal.decreases-loop-mark
decreases-loop-mark l = length l.marks
