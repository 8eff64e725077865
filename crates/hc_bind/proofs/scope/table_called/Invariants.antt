-- No table so far has the name.
use Rattle.std.proofs.Common.{◌≡◌, length}
use Rattle.hc_schema.specs.Binding.Scopes.{table_called}
use Rattle.hc_bind.proofs.scope.table_called.Given as goal

abbrev pub invariant-loop-table : goal.invariant-loop-table
invariant-loop-table l = table_called l.tables l.name ≡ table_called l.left l.name

abbrev pub decreases-loop-table : goal.decreases-loop-table
decreases-loop-table l = length l.left
