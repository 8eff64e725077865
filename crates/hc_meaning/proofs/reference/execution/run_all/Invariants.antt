-- The statements so far gave these answers, and led to this db.
use Rattle.std.proofs.Common.{◌≡◌, take}
use Rattle.hc_meaning.specs.Run.{run_all}
use Rattle.hc_meaning.proofs.reference.execution.run_all.Given as goal

abbrev pub invariant-loop-statement : goal.invariant-loop-statement
invariant-loop-statement l = run_all l.fn.db (take l.statement-index l.statements) ≡ record { answers = l.answers; db = l.db }
