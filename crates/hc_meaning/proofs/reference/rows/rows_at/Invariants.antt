-- The rows so far that have the id are there.
use Rattle.std.proofs.Common.{◌≡◌, take}
use Rattle.hc_meaning.specs.Database.{rows_at}
use Rattle.hc_meaning.proofs.reference.rows.rows_at.Given as goal

abbrev pub invariant-loop-row : goal.invariant-loop-row
invariant-loop-row l = l.rows ≡ rows_at (take l.row-index l.db) l.id
