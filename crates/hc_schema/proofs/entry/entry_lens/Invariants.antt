-- The lengths so far are those of the entries so far.
use Rattle.std.proofs.Common.{◌≡◌, map, take}
use Rattle.hc_schema.specs.Cells.{entry_len}
use Rattle.hc_schema.proofs.entry.entry_lens.Given as goal

abbrev pub invariant-loop-entry : goal.invariant-loop-entry
invariant-loop-entry l = l.lens ≡ map entry_len (take l.entry-index l.entries)
