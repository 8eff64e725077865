use Rattle.std.proofs.Common.{◌≡◌, ◌+◌, drop}
use Rattle.hc_core.specs.Commits.{count_below}
use Rattle.hc_core.proofs.reading.place_for.Given as goal

-- so far each cell is below the key
abbrev pub invariant-loop-cell : goal.invariant-loop-cell
invariant-loop-cell l = record {
  at : l.place ≡ l.cell-index;
  same : count_below l.key l.cells ≡ l.place + count_below l.key (drop l.cell-index l.cells);
}
