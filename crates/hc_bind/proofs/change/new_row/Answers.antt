use Rattle.std.proofs.Common.{◌∙◌, ap, sym, map}
use Rattle.hc_schema.specs.Binding.Faults.{each}
use Rattle.hc_schema.specs.Binding.Expressions.{reading_of}
use Rattle.hc_schema.specs.Binding.Changes.{fitted_row}
use Rattle.hc_bind.specs.Places.{placed_of}
use Rattle.hc_bind.specs.Scopes.{seen}
use Rattle.hc_bind.proofs.Judging.{joined, tells_same}
use Rattle.hc_bind.proofs.change.new_row.Goals as goal
use Rattle.std.proofs.Common.{refl}

pub returns-in-Ok : goal.returns-in-Ok
returns-in-Ok c =
    tells_same _ _ c.fitted_row.result
    (joined _ (fitted_row (map placed_of c.args.places.now)) c.in-Ok.values.items _
    (ap (λ s. each (map (λ e. (reading_of s e).on_rows) c.args.row.now.values)) (sym c.new-scope.ensures)
    ∙ ap (λ xs. each (map (λ e. (reading_of (seen c.new-scope.result) e).on_rows) xs)) (sym c.as_slice.ensures)
    ∙ c.in-Ok.ensures) refl)
    c.fitted_row.ensures
