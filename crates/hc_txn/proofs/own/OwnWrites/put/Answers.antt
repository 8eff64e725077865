use Rattle.std.proofs.Common.{◌≡◌, ◌∙◌, sym, ap, subst, ℕ, List, [], ◌∷◌, ◌++◌, Option, Some, reverse, length, true}
use Rattle.hc_base.specs.Entries.{entry_fits}
use Rattle.hc_txn.specs.declared.own.Past.{Past}
use Rattle.hc_core.specs.Account.{HoldsKey, record_of}
use Rattle.hc_txn.specs.Kept.{now_at, records_before}
use Rattle.hc_txn.specs.Own.{Writes, writes_of, IsHistory}
use Rattle.hc_txn.proofs.KnownKeys.{record_found, records_with_now}
use Rattle.hc_txn.proofs.Histories.{own_put, history_put, newest_first}
use Rattle.hc_txn.proofs.own.OwnWrites.put.Goals as goal

pub set-older-requires : goal.set-older-requires
set-older-requires c = record_found c.self.inside.keys c.args.key.now (subst (λ (w : Writes). HoldsKey w.kept c.args.key.now) (sym c.self.view_is) c.requires.kept)

-- the history after the push
after_push : (items more : List Past) (p : Past) (key : List ℕ) (older : Option (Option (List ℕ))) (rest : List Past) → more ≡ items ++ p ∷ [] → items ≡ rest → p.key ≡ key → p.older ≡ older
    → reverse more ≡ record { key = key; older = older } ∷ reverse rest
after_push items more p key older rest e f g h =
    ap reverse e ∙ newest_first items p ∙ (λ i. record { key = g i; older = h i } ∷ reverse (f i))

pub invariant_of-self-2 : goal.invariant_of-self-2
invariant_of-self-2 c =
    let e : reverse c.push.new.self.items ≡ record { key = c.args.key.now; older = now_at c.self.inside.keys c.args.key.now } ∷ reverse c.self.inside.history.items =
    after_push c.reserve.new.self.items c.push.new.self.items (record { key = c.in_ok-past.past; older = c.set-older.result }) c.args.key.now _ c.self.inside.history.items
    c.in-Ok.ensures.items c.reserve.ensures.items c.in_ok-past.ensures c.set-older.ensures.was in
    subst (λ (ps : List Past). IsHistory c.set-older.new.self ps) (sym e)
    (history_put c.self.inside.keys c.set-older.new.self (reverse c.self.inside.history.items) c.args.key.now c.in_ok-rec.rec
    (record_found c.self.inside.keys c.args.key.now (subst (λ (w : Writes). HoldsKey w.kept c.args.key.now) (sym c.self.view_is) c.requires.kept))
    c.set-older.ensures.set
    (subst (λ (r : Option (List ℕ)). entry_fits (length c.args.key.now) (length (record_of r)) ≡ true) (sym c.in_ok-rec.ensures) c.requires.fits)
    c.self.invariant)

pub returns-clause-own : goal.returns-clause-own
returns-clause-own c =
    let e : reverse c.push.new.self.items ≡ record { key = c.args.key.now; older = now_at c.self.inside.keys c.args.key.now } ∷ reverse c.self.inside.history.items =
    after_push c.reserve.new.self.items c.push.new.self.items (record { key = c.in_ok-past.past; older = c.set-older.result }) c.args.key.now _ c.self.inside.history.items
    c.in-Ok.ensures.items c.reserve.ensures.items c.in_ok-past.ensures c.set-older.ensures.was in
    ap (writes_of (now_at c.set-older.new.self)) e
    ∙ own_put c.self.inside.keys c.set-older.new.self (reverse c.self.inside.history.items) c.args.key.now c.in_ok-rec.rec
    (record_found c.self.inside.keys c.args.key.now (subst (λ (w : Writes). HoldsKey w.kept c.args.key.now) (sym c.self.view_is) c.requires.kept))
    c.set-older.ensures.set
    ∙ (λ i. record { key = c.args.key.now; rec = c.in_ok-rec.ensures i } ∷ ap (λ (w : Writes). w.own) c.self.view_is i)

pub returns-clause-kept : goal.returns-clause-kept
returns-clause-kept c =
    ap records_before c.set-older.ensures.set ∙ records_with_now c.args.key.now (Some c.in_ok-rec.rec) c.self.inside.keys ∙ ap (λ (w : Writes). w.kept) c.self.view_is
