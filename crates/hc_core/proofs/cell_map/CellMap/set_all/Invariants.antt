use Rattle.std.proofs.Common.{◌≡◌, drop}
use Rattle.hc_core.specs.Base.{with_all}
use Rattle.hc_core.proofs.cell_map.CellMap.set_all.Given as goal

-- what is left gives what the whole gives
abbrev pub invariant-loop-write : goal.invariant-loop-write
invariant-loop-write l = with_all l.fn.self l.writes ≡ with_all l.self (drop l.write-index l.writes)
