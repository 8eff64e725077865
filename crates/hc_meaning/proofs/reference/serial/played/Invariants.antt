use Rattle.std.proofs.Common.{◌≡◌, ◌≤◌, ◌++◌, drop}
use Rattle.hc_meaning.specs.Database.{empty_db}
use Rattle.hc_meaning.specs.Played.{played}
use Rattle.hc_meaning.proofs.reference.serial.played.Given as goal

abbrev pub invariant-loop-statement : goal.invariant-loop-statement
invariant-loop-statement l = (l.commits ≤ l.statement-index)
    × (l.replies.items ++ played l.commits l.db (drop l.statement-index l.statements) ≡ played 0 empty_db l.statements)
