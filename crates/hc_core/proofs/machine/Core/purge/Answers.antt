use Rattle.std.proofs.Common.{◌≡◌, ◌≤◌, refl, sym, subst, inl, inr, get_or, ℕ, List, []}
use Rattle.std.proofs.lemmas.List.{length-map}
use Rattle.hc_core.specs.Account.{HasWritten, WhenOpen, txns}
use Rattle.hc_core.specs.Commits.{HasNoTombstone, IsLastTombstone}
use Rattle.hc_core.specs.Kept.{machine_of}
use Rattle.hc_core.specs.Machine.{IsForgettable, Machine, txns_of}
use Rattle.hc_core.specs.declared.account.Entry.{Entry}
use Rattle.hc_core.specs.declared.commit.Commit.{Commit}
use Rattle.hc_core.proofs.LogAnswers.{forgettable_closed, forgettable_last, newest_forgettable}
use Rattle.hc_core.proofs.LogFound.{no_tombstone}
use Rattle.hc_core.proofs.Steps.{not_both_ways}
use Rattle.hc_core.proofs.Asked.{seen_by_all, seen_by_each}
use Rattle.hc_core.proofs.machine.Core.purge.Goals as goal

-- an undecided transaction has the key
pub returns-then-has_writer : goal.returns-then-has_writer
returns-then-has_writer c =
    let m = machine_of c.self.inside.drawn c.self.inside.log.items c.self.inside.conns.items in
    let writer = c.has_writer.ensures.yes c.if-has_writer.true in
    let there = subst (λ (conns : List (List Entry)). WhenOpen (txns (get_or conns writer.0 [])) (λ t. (t.place ≡ 0) × HasWritten t c.args.key.now)) c.as_slice.ensures.value writer.1 in
    inr (subst (λ (n : Machine). IsForgettable (txns_of n) c.args.key.now → ⊥) c.self.view_is (λ f. forgettable_closed c.self.invariant.0.sound.sound c.self.inside.log.items c.self.invariant.0.logged (sym (length-map c.self.inside.log.items (λ (commit : Commit). commit.tid))) c.args.key.now f writer.0 there), refl)

-- the newest commit of the key is no tombstone
pub returns-in_default : goal.returns-in_default
returns-in_default c =
    let m = machine_of c.self.inside.drawn c.self.inside.log.items c.self.inside.conns.items in
    let none = subst (λ (log : List Commit). HasNoTombstone c.args.key.now log) c.as_slice-2.ensures.value c.in_default.ensures in
    inr (subst (λ (n : Machine). IsForgettable (txns_of n) c.args.key.now → ⊥) c.self.view_is (λ f. no_tombstone c.self.invariant.0.sound.sound c.self.inside.log.items c.self.invariant.0.logged (sym (length-map c.self.inside.log.items (λ (commit : Commit). commit.tid))) c.args.key.now none f), refl)

-- an open transaction does not see it
pub returns-then-not-are_above : goal.returns-then-not-are_above
returns-then-not-are_above c =
    let m = machine_of c.self.inside.drawn c.self.inside.log.items c.self.inside.conns.items in
    let last = subst (λ (log : List Commit). IsLastTombstone c.args.key.now log c.in-Some.place) c.as_slice-2.ensures.value c.in-Some.ensures in
    let seen : ((i : ℕ) → WhenOpen (txns_of m i) (λ t. t.snapshot ≤ c.in-Some.place) → ⊥) → ⊥ =
    λ all. not_both_ways _ (c.are_above.ensures.1 (λ i. subst (λ (conns : List (List Entry)). WhenOpen (txns (get_or conns i [])) (λ t. t.snapshot ≤ c.in-Some.place) → ⊥)
    (sym c.as_slice-3.ensures.value) (all i))) c.if-not-are_above.true in
    inr (
      subst (λ (n : Machine). IsForgettable (txns_of n) c.args.key.now → ⊥) c.self.view_is
          (λ f. seen (seen_by_each m c.in-Some.place (forgettable_last c.self.invariant.0.sound.sound c.self.inside.log.items c.self.invariant.0.logged (sym (length-map c.self.inside.log.items (λ (commit : Commit). commit.tid))) c.args.key.now c.in-Some.place f last.0).1)),
      refl,
    )

-- it is a tombstone that each open transaction sees
pub returns : goal.returns
returns c =
    let m = machine_of c.self.inside.drawn c.self.inside.log.items c.self.inside.conns.items in
    let none_open : (j : ℕ) → WhenOpen (txns_of m j) (λ t. (t.place ≡ 0) × HasWritten t c.args.key.now) → ⊥ =
    λ j. subst (λ (conns : List (List Entry)). WhenOpen (txns (get_or conns j [])) (λ t. (t.place ≡ 0) × HasWritten t c.args.key.now) → ⊥)
    c.as_slice.ensures.value (c.has_writer.ensures.none c.if-has_writer.false j) in
    let last = subst (λ (log : List Commit). IsLastTombstone c.args.key.now log c.in-Some.place) c.as_slice-2.ensures.value c.in-Some.ensures in
    let all : (i : ℕ) → WhenOpen (txns_of m i) (λ t. t.snapshot ≤ c.in-Some.place) → ⊥ =
    λ i. subst (λ (conns : List (List Entry)). WhenOpen (txns (get_or conns i [])) (λ t. t.snapshot ≤ c.in-Some.place) → ⊥) c.as_slice-3.ensures.value
    (c.are_above.ensures.0 c.if-not-are_above.false i) in
    inl (
      subst (λ (n : Machine). IsForgettable (txns_of n) c.args.key.now) c.self.view_is
          (newest_forgettable c.self.invariant.0.sound.sound c.self.inside.log.items c.self.invariant.0.logged (sym (length-map c.self.inside.log.items (λ (commit : Commit). commit.tid))) c.args.key.now none_open c.in-Some.place last.0 last.1 (seen_by_all m c.in-Some.place c.self.invariant.0.sound all)),
      refl,
    )
