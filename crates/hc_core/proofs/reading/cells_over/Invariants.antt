use Rattle.std.proofs.Common.{◌≡◌, drop}
use Rattle.hc_core.specs.Commits.{cells_of}
use Rattle.hc_core.proofs.reading.cells_over.Given as goal

-- what is left gives what the whole gives
abbrev pub invariant-loop-commit : goal.invariant-loop-commit
invariant-loop-commit l = cells_of l.fn.range l.fn.cells.items l.log ≡ cells_of l.fn.range l.cells.items (drop l.commit-index l.log)
