-- All are distinct where those that are left are.
use Rattle.std.proofs.Common.{◌↔◌, length}
use Rattle.hc_schema.specs.Tables.{AreDistinct}
use Rattle.hc_schema.proofs.checks.are_distinct.Given as goal

abbrev pub invariant-loop-number : goal.invariant-loop-number
invariant-loop-number l = AreDistinct l.numbers ↔ AreDistinct l.left

abbrev pub decreases-loop-number : goal.decreases-loop-number
decreases-loop-number l = length l.left
