-- Whatever the list stands for, that is what was read so far and what is left.
use Rattle.std.proofs.Common.{◌≡◌, ◌++◌, List, length}
use Rattle.hc_schema.specs.declared.table.Index.{Index}
use Rattle.hc_schema.specs.Tables.{Pairwise}
use Rattle.hc_schema.specs.Reading.{IsIndexCell}
use Rattle.hc_schema.proofs.reading.read_indexes.Given as goal

abbrev pub invariant-loop-cell : goal.invariant-loop-cell
invariant-loop-cell l =
    (all : List Index) → Pairwise IsIndexCell l.cells all → (more : List Index) × (all ≡ l.indexes ++ more) × Pairwise IsIndexCell l.left more

abbrev pub decreases-loop-cell : goal.decreases-loop-cell
decreases-loop-cell l = length l.left
