-- No row so far has the id, so it is still to be looked up among those that are left.
use Rattle.std.proofs.Common.{◌≡◌, drop}
use Rattle.hc_meaning.specs.Database.{value_at}
use Rattle.hc_meaning.proofs.reference.rows.value_at.Given as goal

abbrev pub invariant-loop-row : goal.invariant-loop-row
invariant-loop-row l = value_at l.db l.id ≡ value_at (drop l.row-index l.db) l.id
