use Rattle.std.proofs.Common.{◌≡◌, drop}
use Rattle.hc_core.specs.Commits.{cells_with}
use Rattle.hc_core.proofs.reading.set_cells.Given as goal

-- what is left gives what the whole gives
abbrev pub invariant-loop-write : goal.invariant-loop-write
invariant-loop-write l = cells_with l.fn.range l.fn.cells.items l.writes ≡ cells_with l.fn.range l.cells.items (drop l.write-index l.writes)
