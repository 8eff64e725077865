-- No column so far has the name.
use Rattle.std.proofs.Common.{◌≡◌, drop}
use Rattle.hc_schema.specs.Binding.Changes.{column_called}
use Rattle.hc_bind.proofs.change.column_called.Given as goal

abbrev pub invariant-loop-i : goal.invariant-loop-i
invariant-loop-i l = column_called 0 l.columns l.name ≡ column_called l.i (drop l.i l.columns) l.name
