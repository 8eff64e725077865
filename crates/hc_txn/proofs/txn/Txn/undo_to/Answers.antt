use Rattle.std.proofs.Common.{sym, ◌∙◌, subst, refl, length, ◌∷◌}
use Rattle.hc_txn.specs.Marks.{IsNested}
use Rattle.hc_txn.specs.declared.txn.NoMark.{NoMark}
use Rattle.hc_txn.proofs.Earlier.{nested_in, nested_from}
use Rattle.hc_txn.proofs.Marking.{undone_to, undone_as, undone_nested, not_there, none_named}
use Rattle.hc_txn.proofs.txn.Txn.undo_to.Goals as goal

pub returns-then-not-has_mark : goal.returns-then-not-has_mark
returns-then-not-has_mark c =
    rw (← c.self.view_is) (not_there (Unit {0}) NoMark c.args.name.now c.self.inside.own.own c.self.inside.marks _ _ (record {}) (none_named c.has_mark.result c.args.name.now c.self.inside.marks c.has_mark.ensures c.if-not-has_mark.true) refl)

pub invariant_of-self : goal.invariant_of-self
invariant_of-self c =
    let at = c.in-Some.ensures.count in
    undone_nested c.self.inside.own.own c.undo_to.new.self.own c.in-Some.count c.leave_inner.new.marks at.0 at.1
    (subst (IsNested (length c.self.inside.own.own)) (sym c.in-Some.ensures.left)
    (nested_from c.args.name.now (length c.self.inside.own.own) c.self.inside.marks (nested_in c.self.inside.statement (length c.self.inside.own.own) c.self.inside.marks c.self.invariant)))
    at.2 at.3 c.undo_to.ensures.own

pub returns : goal.returns
returns c =
    let at = c.in-Some.ensures.count in
    let nested : IsNested (length c.self.inside.own.own) (at.0 ∷ at.1) =
    subst (IsNested (length c.self.inside.own.own)) (sym c.in-Some.ensures.left ∙ at.2)
    (nested_from c.args.name.now (length c.self.inside.own.own) c.self.inside.marks (nested_in c.self.inside.statement (length c.self.inside.own.own) c.self.inside.marks c.self.invariant)) in
    rw (← c.self.view_is) (undone_to (Unit {0}) NoMark c.args.name.now c.self.inside.own.own c.self.inside.marks _ _ (tt {0}) at.0 at.1 (sym at.2 ∙ c.in-Some.ensures.left) nested.1
    (undone_as c.in-Some.count c.self.inside.own c.undo_to.new.self c.self.inside.snapshot.0 c.self.inside.log c.leave_inner.new.marks at.0 at.1 at.2 at.3 c.undo_to.ensures.own c.undo_to.ensures.kept))
