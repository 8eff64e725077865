-- The replies so far, with those to what is left, are all of them.
use Rattle.std.proofs.Common.{◌≡◌, ◌≤◌, ◌++◌, drop}
use Rattle.hc_meaning.specs.Database.{empty_db}
use Rattle.hc_meaning.specs.Played.{played}
use Rattle.hc_top.proofs.execution.replies_to.Given as goal

abbrev pub invariant-loop-statement : goal.invariant-loop-statement
invariant-loop-statement l =
    (l.replies.items ++ played l.engine.commits l.engine.rows.entries (drop l.statement-index l.statements) ≡ played 0 empty_db l.statements) × (l.engine.commits ≤ l.statement-index)
