use Rattle.std.proofs.Common.{◌≡◌, ◌∙◌, refl, sym, ap, subst, ℕ, List, Option, Some, None, Bool, not, ◌&&◌, filter, true, IfOk, is_gt}
use Rattle.std.specs.Cmp.Lexicographic.{slice_cmp}
use Rattle.std.specs.Ordering.{nat_cmp}
use Rattle.hc_core.specs.declared.cells.Write.{Write}
use Rattle.hc_range.specs.Ranges.{is_under}
use Rattle.hc_range.specs.declared.range.Range.{Range}
use Rattle.hc_txn.specs.Kept.{Known}
use Rattle.hc_txn.specs.Laying.{IsLastPut}
use Rattle.hc_txn.specs.Laid.{holds, standing, standing_in}
use Rattle.hc_txn.proofs.KeptEntries.{seen}
use Rattle.hc_txn.proofs.RangeEntries.{ends_forward, entries_in, in_bounds, from_bound, ordered_seen}
use Rattle.hc_txn.proofs.Seeing.{on_ok}
use Rattle.hc_txn.proofs.kept.KeptKeys.last_put.Goals as goal

pub range-requires : goal.range-requires
range-requires c =
    rw (c.in_ok-lo.ensures.items, c.as_slice.ensures, c.in_ok-hi-in-Some.ensures.items, c.as_slice-in-Some.ensures)
    (ends_forward c.args.range.now.lo c.in-Some.hi (subst (λ (hi : Option (List ℕ)). is_under c.args.range.now.lo hi ≡ true) c.in-Some.is c.requires.1))

pub returns-in-Some-clause-last : goal.returns-in-Some-clause-last
returns-in-Some-clause-last c =
    subst (λ (writes : List Write). IfOk c.last_put.result (λ found. IsLastPut writes found))
    (ap standing (ap (seen (λ k. k.items)) (c.range.ensures.between tt)
    ∙ entries_in (λ k. k.items) c.args.range.now _ c.self.inside.tree.entries (λ e. in_bounds c.args.range.now c.in_ok-lo.lo.items c.in_ok-hi-in-Some.hi.items e.0.items (c.in_ok-lo.ensures.items ∙ c.as_slice.ensures)
    (ap (λ (hi : List ℕ). Some hi) (c.in_ok-hi-in-Some.ensures.items ∙ c.as_slice-in-Some.ensures) ∙ sym c.in-Some.is))
    ∙ ap (filter (λ k. holds c.args.range.now k.key)) c.self.view_is))
    c.last_put.ensures

pub returns-clause-last : goal.returns-clause-last
returns-clause-last c =
    subst (λ (writes : List Write). IfOk c.last_put-in-None.result (λ found. IsLastPut writes found))
    (ap standing (ap (seen (λ k. k.items)) (c.range-in-None.ensures.between tt)
    ∙ entries_in (λ k. k.items) c.args.range.now _ c.self.inside.tree.entries (λ e. from_bound c.args.range.now c.in_ok-lo.lo.items e.0.items (c.in_ok-lo.ensures.items ∙ c.as_slice.ensures) (sym c.in-None.is))
    ∙ ap (filter (λ k. holds c.args.range.now k.key)) c.self.view_is))
    c.last_put-in-None.ensures

pub returns-in-Some-clause-ordered : goal.returns-in-Some-clause-ordered
returns-in-Some-clause-ordered c = rw (← c.self.view_is) (on_ok c.last_put.result (ordered_seen (λ k. k.items) c.self.inside.tree.entries c.range.ensures.ordered))

pub returns-clause-ordered : goal.returns-clause-ordered
returns-clause-ordered c = rw (← c.self.view_is) (on_ok c.last_put-in-None.result (ordered_seen (λ k. k.items) c.self.inside.tree.entries c.range-in-None.ensures.ordered))
