use Rattle.std.proofs.Common.{◌∙◌, sym, ap, subst, ℕ, List, reverse, drop}
use Rattle.hc_txn.specs.Own.{Writes, writes_of, IsHistory}
use Rattle.hc_txn.specs.Kept.{now_at, with_now, records_before}
use Rattle.hc_txn.specs.declared.own.Past.{Past}
use Rattle.hc_txn.proofs.KnownKeys.{records_with_now}
use Rattle.hc_txn.proofs.Histories.{own_undone, history_undone, newest_first}
use Rattle.hc_txn.proofs.own.OwnWrites.undo.Goals as goal

pub invariant_of-self : goal.invariant_of-self
invariant_of-self c =
    history_undone c.self.inside.keys c.set.new.self c.in-Some.past (reverse c.pop.new.self.items)
    (subst (λ (ps : List Past). IsHistory c.self.inside.keys ps) (ap reverse c.in-Some.ensures.items ∙ newest_first c.pop.new.self.items c.in-Some.past) c.self.invariant)
    (c.set.ensures.set ∙ ap (λ (key : List ℕ). with_now key c.in-Some.past.older c.self.inside.keys) c.as_slice.ensures)

pub returns-in-Some-clause-own : goal.returns-in-Some-clause-own
returns-in-Some-clause-own c =
    own_undone c.self.inside.keys c.set.new.self c.in-Some.past (reverse c.pop.new.self.items)
    (subst (λ (ps : List Past). IsHistory c.self.inside.keys ps) (ap reverse c.in-Some.ensures.items ∙ newest_first c.pop.new.self.items c.in-Some.past) c.self.invariant)
    (c.set.ensures.set ∙ ap (λ (key : List ℕ). with_now key c.in-Some.past.older c.self.inside.keys) c.as_slice.ensures)
    ∙ ap (λ (w : Writes). drop 1 w.own) (ap (λ (ps : List Past). record { own = writes_of (now_at c.self.inside.keys) ps; kept = records_before c.self.inside.keys }) (sym (ap reverse c.in-Some.ensures.items ∙ newest_first c.pop.new.self.items c.in-Some.past)) ∙ c.self.view_is)

pub returns-in-Some-clause-kept : goal.returns-in-Some-clause-kept
returns-in-Some-clause-kept c =
    ap records_before c.set.ensures.set ∙ records_with_now c.as_slice.result.now c.in-Some.past.older c.self.inside.keys ∙ ap (λ (w : Writes). w.kept) c.self.view_is
