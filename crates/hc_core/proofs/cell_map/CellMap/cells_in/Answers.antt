use Rattle.std.proofs.Common.{◌≡◌, ◌∙◌, sym, ap, subst, ℕ, List, Some, IfOk, false}
use Rattle.hc_range.specs.Order.{is_below}
use Rattle.hc_core.specs.Base.{cells_within}
use Rattle.hc_core.specs.declared.cells.Cell.{Cell}
use Rattle.hc_core.proofs.CellEntries.{ends_forward, entries_in, from_bound, in_bounds, none_within, seen}
use Rattle.hc_core.proofs.cell_map.CellMap.cells_in.Goals as goal

-- a range with no upper end
pub returns-in_default : goal.returns-in_default
returns-in_default c =
    subst (λ (cells : List Cell). IfOk c.copied.result (λ found. found.items ≡ cells))
    (ap (seen (λ k. k.items)) (c.range.ensures.between tt)
    ∙ entries_in (λ k. k.items) c.args.range.now _ c.self.inside.tree.entries
    (λ e. from_bound c.args.range.now c.in_ok-lo.lo.items e.0.items (c.in_ok-lo.ensures.items ∙ c.as_slice.ensures) (sym c.in_default.is))
    ∙ ap (cells_within c.args.range.now) c.self.view_is)
    c.copied.ensures

-- an empty range
pub returns-then-not-is_below : goal.returns-then-not-is_below
returns-then-not-is_below c =
    c.new.ensures.items
    ∙ sym (none_within c.args.range.now c.in-Some.hi c.args.self.now (sym c.in-Some.is)
    ((λ i. is_below (sym c.as_slice-2.ensures i) (sym c.as_slice-3.ensures i)) ∙ sym c.is_below.ensures ∙ c.if-not-is_below.true))

pub range-requires-2 : goal.range-requires-2
range-requires-2 c =
    rw (c.in_ok-lo.ensures.items, c.as_slice.ensures, c.in_ok-hi.ensures.items, c.as_slice-4.ensures)
    (ends_forward c.args.range.now.lo c.in-Some.hi
    ((λ i. is_below (sym c.as_slice-2.ensures i) (sym c.as_slice-3.ensures i)) ∙ sym c.is_below.ensures ∙ c.if-not-is_below.false))

-- a range with two ends
pub returns : goal.returns
returns c =
    subst (λ (cells : List Cell). IfOk c.copied-2.result (λ found. found.items ≡ cells))
    (ap (seen (λ k. k.items)) (c.range-2.ensures.between tt)
    ∙ entries_in (λ k. k.items) c.args.range.now _ c.self.inside.tree.entries
    (λ e. in_bounds c.args.range.now c.in_ok-lo.lo.items c.in_ok-hi.hi.items e.0.items (c.in_ok-lo.ensures.items ∙ c.as_slice.ensures)
    (ap (λ (hi : List ℕ). Some hi) (c.in_ok-hi.ensures.items ∙ c.as_slice-4.ensures) ∙ sym c.in-Some.is))
    ∙ ap (cells_within c.args.range.now) c.self.view_is)
    c.copied-2.ensures
