use Rattle.std.proofs.Common.{sym, ap, ◌∙◌, subst, List, refl, length, drop, None}
use Rattle.hc_txn.specs.Marks.{IsNested, kept_from, marks_over}
use Rattle.hc_txn.specs.declared.txn.NoMark.{NoMark}
use Rattle.hc_txn.specs.declared.marks.MarkAt.{MarkAt}
use Rattle.hc_txn.proofs.Earlier.{nested_in, nested_from}
use Rattle.hc_txn.proofs.Marking.{released, not_released, nested_rest, none_named}
use Rattle.hc_txn.proofs.txn.Txn.release.Goals as goal

pub invariant_of-self : goal.invariant_of-self
invariant_of-self c =
    subst (λ (marks : List MarkAt). IsNested (length c.self.inside.own.own) marks) (sym (c.pop_front.ensures.rest ∙ ap (drop 1) c.leave_inner-self-inside.ensures.left))
    (nested_rest (length c.self.inside.own.own) (kept_from c.args.name.now c.self.inside.marks)
    (nested_from c.args.name.now (length c.self.inside.own.own) c.self.inside.marks (nested_in c.self.inside.statement (length c.self.inside.own.own) c.self.inside.marks c.self.invariant)))

pub returns-then-not-has_mark : goal.returns-then-not-has_mark
returns-then-not-has_mark c =
    rw (← c.self.view_is) (not_released (Unit {0}) NoMark c.args.name.now c.self.inside.own.own c.self.inside.marks _ _ (record {}) (none_named c.has_mark.result c.args.name.now c.self.inside.marks c.has_mark.ensures c.if-not-has_mark.true) refl)

pub returns : goal.returns
returns c =
    rw (← c.self.view_is) (released (Unit {0}) NoMark c.args.name.now c.self.inside.own.own c.self.inside.marks _ _ tt c.leave_inner-self-inside.new.marks c.leave_inner-self-inside.ensures.left
    (λ e. c.has_mark.ensures.0 c.if-not-has_mark.false (sym c.leave_inner-self-inside.ensures.left ∙ e))
    (ap (λ (marks : List MarkAt). record { snapshot = c.self.inside.snapshot.0; log = c.self.inside.log; own = c.self.inside.own.own; kept = c.self.inside.own.kept; marks = marks_over c.self.inside.own.own marks; statement = None }) c.pop_front.ensures.rest))
