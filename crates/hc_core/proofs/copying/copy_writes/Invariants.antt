use Rattle.std.proofs.Common.{◌≡◌, take}
use Rattle.hc_core.proofs.copying.copy_writes.Given as goal

-- those copied so far are the first ones
abbrev pub invariant-loop-write : goal.invariant-loop-write
invariant-loop-write l = l.copies.items ≡ take l.write-index l.writes
