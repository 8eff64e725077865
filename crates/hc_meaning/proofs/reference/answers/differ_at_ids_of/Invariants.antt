-- They agree at each id so far.
use Rattle.std.proofs.Common.{take}
use Rattle.std.specs.Prelude.{All}
use Rattle.hc_meaning.proofs.Table.Differences.{AgreesAt}
use Rattle.hc_meaning.proofs.reference.answers.differ_at_ids_of.Given as goal

abbrev pub invariant-loop-row : goal.invariant-loop-row
invariant-loop-row l = All (λ row. AgreesAt l.before l.after row.0) (take l.row-index l.rows)
