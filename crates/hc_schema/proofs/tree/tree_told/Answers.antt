use Rattle.std.proofs.Common.{inl, inr, IsTrue, ap, ◌∙◌}
use Rattle.hc_core.specs.declared.cells.Cell.{Cell}
use Rattle.hc_schema.proofs.tree.tree_told.Goals as goal

pub returns : goal.returns
returns c e n is cell =
    let yes : IsTrue c.ends_with_zero.result = cc in
    let none = (c.ends_with_zero.ensures is.front is.last is.fits (c.as_slice.ensures ∙ ap (λ (x : Cell). x.key) cell ∙ is.key)).0 yes in
    elim is.told [
      | inl other ↦ absurd (other.0 none)
      | inr told ↦ c.number_told.ensures e.values n told.1 (c.as_slice-2.ensures ∙ ap (λ (x : Cell). x.rec) cell)
    ]
