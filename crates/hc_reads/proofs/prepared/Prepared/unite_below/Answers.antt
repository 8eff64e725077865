use Rattle.std.proofs.Common.{◌∙◌, subst, ℕ, Some, List, ◌++◌, ◌⊎◌, ◌↔◌}
use Rattle.hc_range.specs.Ranges.{InAny, InRange}
use Rattle.hc_reads.proofs.SameKeys.{keys_pushed}
use Rattle.hc_reads.proofs.prepared.Prepared.unite_below.Goals as goal

pub returns : goal.returns
returns c =
    rw (← c.self.view_is)
    (subst (λ (end : List ℕ). (key : List ℕ) → InAny c.from_parts.result key ↔ (InAny (c.self.inside.log ++ c.self.inside.waiting.items) key ⊎ InRange (record { lo = c.self.inside.range.lo; hi = Some end }) key))
    (c.from_vec.ensures ∙ c.filled.ensures)
    (keys_pushed c.self.inside.log c.self.inside.waiting.items c.with_range.result.items (record { lo = c.self.inside.range.lo; hi = Some c.from_vec.result }) c.from_parts.result c.from_parts.ensures
    c.with_range.ensures))
