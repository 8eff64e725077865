-- What is written and the groups that are left are all of them.
use Rattle.std.proofs.Common.{◌≡◌, ◌++◌, ◌≤◌}
use Rattle.hc_record.specs.Varint.{marked}
use Rattle.hc_record.proofs.varint.push_marked.Given as goal

abbrev pub invariant-loop-left : goal.invariant-loop-left
invariant-loop-left l = record { whole : l.out.items ++ marked l.left l.n ≡ l.fn.out.items ++ marked l.groups l.n; most : l.left ≤ 8 }

abbrev pub decreases-loop-left : goal.decreases-loop-left
decreases-loop-left l = l.left
