-- Whatever the list stands for, that is what was read so far and what is left.
use Rattle.std.proofs.Common.{◌≡◌, ◌++◌, List, length}
use Rattle.hc_schema.specs.declared.table.Column.{Column}
use Rattle.hc_schema.specs.Tables.{Pairwise}
use Rattle.hc_schema.specs.Reading.{IsColumnCell}
use Rattle.hc_schema.proofs.reading.read_columns.Given as goal

abbrev pub invariant-loop-cell : goal.invariant-loop-cell
invariant-loop-cell l =
    (all : List Column) → Pairwise IsColumnCell l.cells all → (more : List Column) × (all ≡ l.columns ++ more) × Pairwise IsColumnCell l.left more

abbrev pub decreases-loop-cell : goal.decreases-loop-cell
decreases-loop-cell l = length l.left
