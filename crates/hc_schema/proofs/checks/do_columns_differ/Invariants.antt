-- The names of all differ where those that are left do: the ones before are new to each later one.
use Rattle.std.proofs.Common.{◌↔◌, length}
use Rattle.hc_schema.specs.Tables.{NamesDiffer, column_names}
use Rattle.hc_schema.proofs.checks.do_columns_differ.Given as goal

abbrev pub invariant-loop-column : goal.invariant-loop-column
invariant-loop-column l = NamesDiffer (column_names l.columns) ↔ NamesDiffer (column_names l.left)

abbrev pub decreases-loop-column : goal.decreases-loop-column
decreases-loop-column l = length l.left
