use Rattle.std.proofs.Common.{◌≡◌, refl, sym, ap, ◌<◌, List, [], ◌∷◌, length, slice_index_or, arith}
use Rattle.hc_txn.specs.declared.marks.MarkAt.{MarkAt}
use Rattle.hc_txn.proofs.marks.leave_inner.Goals as goal

-- the mark in front, and those after it
front_is : (marks : List MarkAt) (mark : MarkAt) → 0 < length marks → mark ≡ slice_index_or marks 0 mark → (outer : List MarkAt) × (marks ≡ mark ∷ outer)
front_is [] mark some e = absurd (let h : ⊥ = omega (arith, some) in h)
front_is (m ∷ outer) mark some e = (outer, ap (λ (x : MarkAt). x ∷ outer) (sym e))

pub returns-then-is_named-clause-count : goal.returns-then-is_named-clause-count
returns-then-is_named-clause-count c =
    let f = front_is c.loop-mark.marks c.in-Some.mark.now (c.in-Some.ensures.variant.0 refl) c.in-Some.ensures.lookup in
    (c.in-Some.mark.now, f.0, f.1, refl)
