use Rattle.std.proofs.Common.{◌≡◌, ◌++◌}
use Rattle.hc_core.proofs.CellEntries.{seen}
use Rattle.hc_core.proofs.cell_map.copied.Given as goal

-- those that were copied and those that are left are all
abbrev pub invariant-loop-key : goal.invariant-loop-key
invariant-loop-key l = l.copies.items ++ seen (λ k. k.items) l.key-iterator ≡ seen (λ k. k.items) l.fn.cells
