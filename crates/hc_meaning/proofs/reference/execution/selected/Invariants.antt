-- The rows so far are shown.
use Rattle.std.proofs.Common.{◌≡◌, [], ◌∷◌, take, map}
use Rattle.hc_value.specs.declared.value.Value.TheVariants.{Int}
use Rattle.hc_meaning.proofs.reference.execution.selected.Given as goal

abbrev pub invariant-loop-row : goal.invariant-loop-row
invariant-loop-row l = l.shown ≡ map (λ row. record { values = Int row.1 ∷ [] }) (take l.row-index l.rows)
