-- The numbers so far are those of the columns so far.
use Rattle.std.proofs.Common.{◌≡◌, ◌+◌, map, take}
use Rattle.hc_schema.specs.Cells.{number}
use Rattle.hc_schema.proofs.catalog.column_numbers.Given as goal

abbrev pub invariant-loop-k : goal.invariant-loop-k
invariant-loop-k l = l.numbers ≡ map (λ k. number (k + 1)) (take l.k-index l.columns)
