use Rattle.std.proofs.Common.{◌≡◌, ◌∙◌, sym, ap, subst, ℕ, List, Option, None, Result, Ok, Err, refl, reverse, ◌⊎◌, ◌↔◌, OnOk}
use Rattle.hc_base.specs.Lookup.{Among}
use Rattle.hc_core.specs.Account.{HoldsKey}
use Rattle.hc_core.specs.declared.cells.Write.{Write}
use Rattle.hc_txn.specs.Kept.{Known, find_known, with_known, records_before}
use Rattle.hc_txn.specs.Own.{Standing, Writes, writes_of}
use Rattle.hc_txn.proofs.KnownKeys.{not_found, among_with_known}
use Rattle.hc_txn.proofs.Histories.{same_history, same_standing}
use Rattle.hc_txn.proofs.own.OwnWrites.add.Goals as goal

pub invariant_of-self : goal.invariant_of-self
invariant_of-self c =
    same_history c.self.inside.keys c.add.new.self (reverse c.self.inside.history.items)
    (same_standing c.add.result c.self.inside.keys c.add.new.self (record { key = c.in_ok-key.key.items; before = c.args.before; now = None }) refl
    (ap (λ (key : List ℕ). find_known key c.self.inside.keys) c.in_ok-key.ensures.items
    ∙ not_found c.self.inside.keys c.args.key.now (subst (λ (w : Writes). HoldsKey w.kept c.args.key.now → ⊥) (sym c.self.view_is) c.requires))
    c.add.ensures.added c.add.ensures.no_memory)
    c.self.invariant

pub returns-clause-own : goal.returns-clause-own
returns-clause-own c =
    ap (λ (f : Standing). writes_of f (reverse c.self.inside.history.items))
    (same_standing c.add.result c.self.inside.keys c.add.new.self (record { key = c.in_ok-key.key.items; before = c.args.before; now = None }) refl
    (ap (λ (key : List ℕ). find_known key c.self.inside.keys) c.in_ok-key.ensures.items
    ∙ not_found c.self.inside.keys c.args.key.now (subst (λ (w : Writes). HoldsKey w.kept c.args.key.now → ⊥) (sym c.self.view_is) c.requires))
    c.add.ensures.added c.add.ensures.no_memory)
    ∙ ap (λ (w : Writes). w.own) c.self.view_is

kept_added : {T E : Type 0} (r : Result T E) (ks more : List Known) (items key : List ℕ) (before : Option (List ℕ)) (kept : List Write) → items ≡ key → records_before ks ≡ kept
    → find_known items ks ≡ None → OnOk r (more ≡ with_known (record { key = items; before = before; now = None }) ks)
    → OnOk r ((w : Write) → Among w (records_before more) ↔ ((w ≡ record { key = key; rec = before }) ⊎ Among w kept))
kept_added (Ok t) ks more items key before kept e k none ok = λ w.
    subst (λ (all : List Known). Among w (records_before all) ↔ ((w ≡ record { key = key; rec = before }) ⊎ Among w kept)) (sym ok)
    (subst (λ (q : List ℕ). Among w (records_before (with_known (record { key = items; before = before; now = None }) ks)) ↔ ((w ≡ record { key = q; rec = before }) ⊎ Among w kept)) e
    (subst (λ (ws : List Write). Among w (records_before (with_known (record { key = items; before = before; now = None }) ks)) ↔ ((w ≡ record { key = items; rec = before }) ⊎ Among w ws)) k
    (among_with_known (record { key = items; before = before; now = None }) w ks none)))
kept_added (Err f) ks more items key before kept e k none ok = ok

pub returns-clause-kept : goal.returns-clause-kept
returns-clause-kept c =
    kept_added c.add.result c.self.inside.keys c.add.new.self c.in_ok-key.key.items c.args.key.now c.args.before c.args.self.now.kept c.in_ok-key.ensures.items
    (ap (λ (w : Writes). w.kept) c.self.view_is)
    (ap (λ (key : List ℕ). find_known key c.self.inside.keys) c.in_ok-key.ensures.items
    ∙ not_found c.self.inside.keys c.args.key.now (subst (λ (w : Writes). HoldsKey w.kept c.args.key.now → ⊥) (sym c.self.view_is) c.requires))
    c.add.ensures.added
