use Rattle.std.proofs.Common.{◌≡◌, ⊎_elim, sym, subst, get_or, ℕ, List, [], MatchOption}
use Rattle.std.proofs.lemmas.Bool.{cases_eq}
use Rattle.std.proofs.lemmas.List.{length-map}
use Rattle.hc_core.specs.Account.{HasWritten, Txn, WhenOpen, txns}
use Rattle.hc_core.specs.Commits.{IsMetAbove, IsNoneAbove}
use Rattle.hc_core.specs.Kept.{machine_of}
use Rattle.hc_core.specs.Machine.{IsFree, Machine, Names, txns_of}
use Rattle.hc_core.specs.Versions.{IsInTheWay}
use Rattle.hc_core.specs.declared.account.Entry.{Entry}
use Rattle.hc_core.specs.declared.commit.Commit.{Commit}
use Rattle.hc_core.specs.declared.outcome.Met.{Met as MetRecord}
use Rattle.hc_core.proofs.LogFound.{put_met, put_free}
use Rattle.hc_core.proofs.Steps.{match_map}
use Rattle.hc_core.proofs.machine.Core.in_the_way.Goals as goal

-- no open transaction has the key, and so the log decides
pub returns : goal.returns
returns c =
    let m = machine_of c.self.inside.drawn c.self.inside.log.items c.self.inside.conns.items in
    let none_open : (j : ℕ) → WhenOpen (txns_of m j) (λ t. (t.place ≡ 0) × HasWritten t c.args.key.now) → ⊥ =
    λ j. ⊎_elim
    (λ (own : j ≡ c.args.conn). subst (λ (n : Machine). WhenOpen (txns_of n j) (λ t. (t.place ≡ 0) × HasWritten t c.args.key.now) → ⊥) (sym c.self.view_is)
    (subst (λ k. WhenOpen (txns_of c.args.self.now k) (λ t. (t.place ≡ 0) × HasWritten t c.args.key.now) → ⊥) (sym own) c.requires.own))
    (λ other. subst (λ (conns : List (List Entry)). WhenOpen (txns (get_or conns j [])) (λ t. (t.place ≡ 0) × HasWritten t c.args.key.now) → ⊥)
    c.as_slice.ensures.value (c.in_default.ensures j other))
    (cases_eq j c.args.conn) in
    let Free : Machine → Type 0 = λ n. (i : ℕ) → IsFree (txns_of n) i c.args.snapshot c.args.key.now in
    let Meets : Machine → MetRecord → Type 0 = λ n met. (i : ℕ) → (WhenOpen (txns_of n i) (λ t. (t.place ≡ 0) × HasWritten t c.args.key.now) → ⊥)
    → (j : ℕ) × (u : Txn) × IsInTheWay (txns_of n) i c.args.snapshot c.args.key.now j u × Names met j u c.args.key.now in
    subst (λ (n : Machine). MatchOption c.met_above.result (Free n) (Meets n)) c.self.view_is
    (match_map _ _ (Free m) _ (Meets m) c.met_above.ensures
    (λ none i. put_free c.self.invariant.0.sound.sound c.self.inside.log.items c.self.invariant.0.logged (sym (length-map c.self.inside.log.items (λ (commit : Commit). commit.tid))) c.args.key.now none_open i c.args.snapshot
    (subst (IsNoneAbove c.args.snapshot c.args.key.now) c.as_slice-2.ensures.value none))
    (λ met h i closed. put_met c.self.invariant.0.sound.sound c.self.inside.log.items c.self.invariant.0.logged (sym (length-map c.self.inside.log.items (λ (commit : Commit). commit.tid))) c.args.key.now none_open i c.args.snapshot met
    (subst (λ (log : List Commit). IsMetAbove c.args.snapshot c.args.key.now log met) c.as_slice-2.ensures.value h)))
