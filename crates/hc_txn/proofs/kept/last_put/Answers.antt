use Rattle.std.proofs.Common.{◌≡◌, ◌∙◌, refl, sym, ap, subst, ℕ, List, [], ◌∷◌, ◌++◌, Some}
use Rattle.hc_core.specs.declared.cells.Write.{Write}
use Rattle.hc_txn.specs.Laid.{standing, with_standing}
use Rattle.hc_txn.specs.Laying.{IsLastPut}
use Rattle.hc_txn.proofs.KeptEntries.{seen}
use Rattle.hc_txn.proofs.LastPut.{HasPassed, last_found, last_none, passed_more, standing_push}
use Rattle.hc_txn.proofs.kept.last_put.Goals as goal

pub loop-key-preserved : goal.loop-key-preserved
loop-key-preserved c =
    passed_more _ (standing (seen (λ k. k.items) c.next_back.new.self)) c.in-Some.key.now.items c.in-Some.kept.now.now c.in_default-record_put.ensures
    (subst (λ (ws : List Write). HasPassed (standing (seen (λ k. k.items) c.args.keys)) ws)
    (ap (λ es. standing (seen (λ k. k.items) es)) c.in-Some.ensures.steps ∙ standing_push (λ k. k.items) c.next_back.new.self (c.in-Some.key.now, c.in-Some.kept.now)) c.loop-key.invariant)

pub returns-in-Some : goal.returns-in-Some
returns-in-Some c =
    subst (λ (key : List ℕ). IsLastPut (standing (seen (λ k. k.items) c.args.keys)) (Some (record { key = key; rec = c.in_ok-rec.rec }))) (sym (c.in_ok-key.ensures ∙ c.as_slice.ensures.value))
    (subst (λ (rec : List ℕ). IsLastPut (standing (seen (λ k. k.items) c.args.keys)) (Some (record { key = c.in-Some.key.now.items; rec = rec }))) (sym (c.in_ok-rec.ensures ∙ c.as_slice-in-Some.ensures))
    (last_found _ (standing (seen (λ k. k.items) c.next_back.new.self)) c.in-Some.key.now.items c.in-Some-record_put.rec.now c.in-Some.kept.now.now c.in-Some-record_put.ensures
    (subst (λ (ws : List Write). HasPassed (standing (seen (λ k. k.items) c.args.keys)) ws)
    (ap (λ es. standing (seen (λ k. k.items) es)) c.in-Some.ensures.steps ∙ standing_push (λ k. k.items) c.next_back.new.self (c.in-Some.key.now, c.in-Some.kept.now)) c.loop-key.invariant)))

pub returns : goal.returns
returns c =
    last_none _
    (subst (λ (ws : List Write). HasPassed (standing (seen (λ k. k.items) c.args.keys)) ws) (ap (λ es. standing (seen (λ k. k.items) es)) c.in_default.ensures.steps.0) c.loop-key.invariant)
