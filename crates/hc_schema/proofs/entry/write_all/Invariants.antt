-- The cells so far are those of the entries so far.
use Rattle.std.proofs.Common.{◌≡◌, map, take}
use Rattle.hc_schema.specs.Cells.{cell_of}
use Rattle.hc_schema.proofs.entry.write_all.Given as goal

abbrev pub invariant-loop-entry : goal.invariant-loop-entry
invariant-loop-entry l = l.cells ≡ map cell_of (take l.entry-index l.entries)
