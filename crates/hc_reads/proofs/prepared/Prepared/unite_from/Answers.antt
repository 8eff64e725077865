use Rattle.std.proofs.Common.{◌∙◌, subst, ℕ, List, ◌++◌, ◌⊎◌, ◌↔◌}
use Rattle.hc_range.specs.Ranges.{InAny, InRange}
use Rattle.hc_reads.proofs.SameKeys.{keys_pushed}
use Rattle.hc_reads.proofs.prepared.Prepared.unite_from.Goals as goal

pub returns : goal.returns
returns c =
    rw (← c.self.view_is)
    (subst (λ (lo : List ℕ). (key : List ℕ) → InAny c.from_parts.result key ↔ (InAny (c.self.inside.log ++ c.self.inside.waiting.items) key ⊎ InRange (record { lo = lo; hi = c.self.inside.range.hi }) key))
    (c.from_vec-lo.ensures ∙ c.filled.ensures)
    (keys_pushed c.self.inside.log c.self.inside.waiting.items c.with_range.result.items (record { lo = c.from_vec-lo.result; hi = c.self.inside.range.hi }) c.from_parts.result c.from_parts.ensures
    c.with_range.ensures))
