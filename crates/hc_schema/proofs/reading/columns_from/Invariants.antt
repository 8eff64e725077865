-- Whatever the list stands for, that is what was read so far and what is left.
use Rattle.std.proofs.Common.{◌≡◌, ℕ, ◌++◌, List, length}
use Rattle.hc_schema.specs.Tables.{Pairwise}
use Rattle.hc_schema.specs.Reading.{IsNumberOf}
use Rattle.hc_schema.proofs.reading.columns_from.Given as goal

abbrev pub invariant-loop-value : goal.invariant-loop-value
invariant-loop-value l =
    (all : List ℕ) → Pairwise IsNumberOf l.values all → (more : List ℕ) × (all ≡ l.columns ++ more) × Pairwise IsNumberOf l.left more

abbrev pub decreases-loop-value : goal.decreases-loop-value
decreases-loop-value l = length l.left
