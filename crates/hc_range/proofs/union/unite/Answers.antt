use Rattle.std.proofs.Common.{◌≡◌, ℕ, List, subst, sym, ◌⊎◌, ◌↔◌, arith}
use Rattle.std.proofs.lemmas.List.{take_rest}
use Rattle.hc_range.specs.declared.range.Range.{Range}
use Rattle.hc_range.specs.Ranges.{InAny, InRange, IsNormal}
use Rattle.hc_range.proofs.Normal.{IsNormal-drop}
use Rattle.hc_range.proofs.United.{Cut, Cut-from_searches, IsNormal-inserted, InAny-inserted, IsNormal-merged, InAny-merged}
use Rattle.hc_range.proofs.union.unite.Goals as goal
use Rattle.hc_range.proofs.union.unite.Goals.{After-count_begun}

pub count_begun-requires : goal.count_begun-requires
count_begun-requires c =
    subst IsNormal (sym (take_rest c.deref.result.now c.count_before-from.result))
    (IsNormal-drop c.count_before-from.result c.deref.result.now (subst IsNormal (sym c.deref.ensures.value) c.requires.normal))

-- what the two searches say of the list as it was
cut : (c : After-count_begun) → Cut c.args.ranges.now.items c.args.range c.count_before-from.result c.count_begun.result
cut c =
    Cut-from_searches c.args.ranges.now.items c.as_slice.result.now c.deref.result.now c.args.range c.as_slice-2.result.now
    c.count_before-from.result c.count_begun.result c.as_slice.ensures.value c.deref.ensures.value c.as_slice-2.ensures
    c.count_before-from.ensures.within c.count_before-from.ensures.before c.count_before-from.ensures.others
    c.count_begun.ensures.within c.count_begun.ensures.begun c.count_begun.ensures.others

pub returns-then-from-to-clause-normal : goal.returns-then-from-to-clause-normal
returns-then-from-to-clause-normal c =
    let none : c.count_begun.result ≡ 0 = omega arith in
    subst IsNormal (sym c.in_ok-insert.ensures.items)
    (IsNormal-inserted c.args.ranges.now.items c.args.range c.count_before-from.result
    (subst (λ (n : ℕ). Cut c.args.ranges.now.items c.args.range c.count_before-from.result n) none (cut (goal.at.returns-then-from-to-clause-normal c).After-count_begun)) c.requires.normal c.requires.holds)

pub returns-then-from-to-clause-added : goal.returns-then-from-to-clause-added
returns-then-from-to-clause-added c = λ key.
    subst (λ (xs : List Range). InAny xs key ↔ (InAny c.args.ranges.now.items key ⊎ InRange c.args.range key)) (sym c.in_ok-insert.ensures.items)
    (InAny-inserted c.args.ranges.now.items c.args.range c.count_before-from.result key)

pub returns-clause-normal : goal.returns-clause-normal
returns-clause-normal c =
    subst IsNormal (sym c.merge.ensures.items)
    (IsNormal-merged c.args.ranges.now.items c.args.range c.count_before-from.result c.count_begun.result (omega arith) (cut (goal.at.returns-clause-normal c).After-count_begun) c.requires.normal c.requires.holds)

pub returns-clause-added : goal.returns-clause-added
returns-clause-added c = λ key.
    subst (λ (xs : List Range). InAny xs key ↔ (InAny c.args.ranges.now.items key ⊎ InRange c.args.range key)) (sym c.merge.ensures.items)
    (InAny-merged c.args.ranges.now.items c.args.range c.count_before-from.result c.count_begun.result (omega arith) (cut (goal.at.returns-clause-added c).After-count_begun) c.requires.normal key)
