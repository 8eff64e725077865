use Rattle.std.proofs.Common.{take}
use Rattle.hc_core.specs.Account.{HoldsKey}
use Rattle.hc_base.specs.Lookup.{Among}
use Rattle.hc_core.specs.declared.cells.Write.{Write}
use Rattle.hc_test_desks.proofs.guard.are_all_put.Given as goal

-- those so far are put
abbrev pub invariant-loop-write : goal.invariant-loop-write
invariant-loop-write l = (w : Write) → Among w (take l.write-index l.writes) → HoldsKey l.put w.key
