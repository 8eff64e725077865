-- All are columns where those that are left are.
use Rattle.std.proofs.Common.{◌↔◌, length}
use Rattle.std.specs.List.{AllByRecursion}
use Rattle.hc_schema.specs.Tables.{IsColumn}
use Rattle.hc_schema.proofs.checks.are_columns.Given as goal

abbrev pub invariant-loop-column : goal.invariant-loop-column
invariant-loop-column l = AllByRecursion IsColumn l.columns ↔ AllByRecursion IsColumn l.left

abbrev pub decreases-loop-column : goal.decreases-loop-column
decreases-loop-column l = length l.left
