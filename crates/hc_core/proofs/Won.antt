-- What a decision rests on, and what the machine keeps after it.
use Rattle.std.proofs.Common.{◌≡◌, ◌≢◌, ◌∙◌, refl, sym, ap, subst, inl, inr, ℕ, zero, suc, ◌+◌, ◌-◌, ◌<◌, ◌≤◌, List, [], ◌∷◌, ◌++◌, length, map, get_or, slice_set, arith, Option, Some, None}
use Rattle.std.specs.Prelude.{slice_index}
use Rattle.std.proofs.lemmas.List.{length-map, map-append}
use Rattle.hc_range.specs.Ranges.{Includes}
use Rattle.hc_base.specs.Lookup.{Among, but}
use Rattle.hc_core.specs.Account.{PartRead, Txn, WhenOpen, after_decide, newest_changed, txns}
use Rattle.hc_core.specs.Commits.{IsCommitOf}
use Rattle.hc_core.specs.Diary.{entry_of}
use Rattle.hc_core.specs.Kept.{IsKept, KeepsChecks, machine_of}
use Rattle.hc_core.specs.Machine.{Answers, IsEnabled, Machine, account_of, entered, log_after, txns_of}
use Rattle.hc_core.specs.Running.{HaveSameWrites, Matches, MayDecide}
use Rattle.hc_core.specs.Sound.{IsSound}
use Rattle.hc_core.specs.declared.account.Entry.{Entry}
use Rattle.hc_core.specs.declared.commit.Commit.{Commit}
use Rattle.hc_core.specs.declared.event.Event.{Event}
use Rattle.hc_core.specs.declared.event.Event.TheVariants.{Decide}
use Rattle.hc_core.specs.declared.outcome.Outcome.{Outcome}
use Rattle.hc_core.specs.declared.outcome.Outcome.TheVariants.{Decided, Lost}
use Rattle.hc_core.specs.declared.running.Running.{Running}
use Rattle.hc_core.proofs.Entered.{opened, of_newest, in_range}
use Rattle.hc_base.proofs.Lookups.{new_here}
use Rattle.hc_core.proofs.Ordered.{newest_sound}
use Rattle.hc_core.proofs.Steps.{account_is, entry_is, when_map}
use Rattle.hc_core.proofs.Upheld.{Settles, commits_changed, commits_pushed, short_changed, kept_entered}

-- an id of the log is that of the entry
pub log_at : (commits : List Commit) (place : ℕ) (d : Commit) → place < length commits
    → slice_index (map (λ (commit : Commit). commit.tid) commits) place ≡ (get_or commits place d).tid
log_at [] place d within = absurd (omega (arith, within))
log_at (commit ∷ commits) zero d within = refl
log_at (commit ∷ commits) (suc place) d within = log_at commits place d (omega (arith, within))

-- there is none where there cannot be one
is_none_unless : (weight : Option ℕ) → (weight ≢ None → ⊥) → weight ≡ None
is_none_unless None never = refl
is_none_unless (Some n) never = absurd (never (λ e. let f : Some n ≡ None = e in cc))

-- where the checks are kept, what is kept tells whether a decision is enabled
pub decide_enabled : (m : Machine) (i : ℕ) (r : Running) → WhenOpen (txns_of m i) (Matches r) → KeepsChecks m i → MayDecide r → IsEnabled m (Decide i)
decide_enabled m i r h keeps may =
    let o = opened (txns_of m i) (Matches r) h in
    let proposes : o.t.proposed ≢ 0 = λ none. may.0 ((o.holds).proposed ∙ none) in
    let unweighed : o.t.weight ≡ None = is_none_unless o.t.weight (λ some. keeps (subst (λ ts. WhenOpen ts (λ t. (t.weight ≢ None) × (t.proposed ≢ 0))) (sym o.is) (o.running, (some, proposes)))) in
    subst (λ ts. WhenOpen ts (λ t. (t.proposed ≢ 0) × (t.place ≡ 0) × ((read : PartRead) → Among read t.reads → Includes t.checked read.part))) (sym o.is) (
      o.running,
      (
        proposes,
        sym (o.holds).place ∙ may.1,
        λ read there key inside. ((o.holds).checked unweighed key).0 (may.2 key (((o.holds).reads key).1 (read, there, inside))),
      ),
    )

-- and where it is, what is kept tells so
pub decide_disabled : (m : Machine) (i : ℕ) (r : Running) → WhenOpen (txns_of m i) (Matches r) → KeepsChecks m i → (MayDecide r → ⊥) → IsEnabled m (Decide i) → ⊥
decide_disabled m i r h keeps may_not enabled =
    let o = opened (txns_of m i) (Matches r) h in
    let q = of_newest (txns_of m i) o.t o.rest (λ t. (t.proposed ≢ 0) × (t.place ≡ 0) × ((read : PartRead) → Among read t.reads → Includes t.checked read.part)) o.is enabled in
    let unweighed : o.t.weight ≡ None = is_none_unless o.t.weight (λ some. keeps (subst (λ ts. WhenOpen ts (λ t. (t.weight ≢ None) × (t.proposed ≢ 0))) (sym o.is) (o.running, (some, q.0)))) in
    may_not (
      (λ none. q.0 (sym (o.holds).proposed ∙ none)),
      (o.holds).place ∙ q.1,
      λ key inside. let read = ((o.holds).reads key).0 inside in ((o.holds).checked unweighed key).1 (q.2 read.0 read.1 key read.2),
    )

-- a proposed number is at most the next one
pub proposed_within : (m : Machine) (i : ℕ) (r : Running) → IsSound m → WhenOpen (txns_of m i) (Matches r) → r.proposed ≤ length m.log + 1
proposed_within m i r sound h =
    let o = opened (txns_of m i) (Matches r) h in
    subst (λ n. n ≤ length m.log + 1) (sym (o.holds).proposed) ((newest_sound sound.sound i o.t o.rest o.is).numbers.proposed_within)

-- who proposes has drawn an id
pub proposer_drew : (m : Machine) (i : ℕ) → IsSound m → IsEnabled m (Decide i) → WhenOpen (txns_of m i) (λ t. (t.id ≢ 0) × (t.place ≡ 0))
proposer_drew m i sound enabled =
    let o = opened (txns_of m i) (λ t. (t.proposed ≢ 0) × (t.place ≡ 0) × ((read : PartRead) → Among read t.reads → Includes t.checked read.part)) enabled in
    let drew : o.t.id ≢ 0 = λ none. (o.holds).0 (((newest_sound sound.sound i o.t o.rest o.is).numbers.undrawn none).1) in
    subst (λ ts. WhenOpen ts (λ t. (t.id ≢ 0) × (t.place ≡ 0))) (sym o.is) (o.running, (drew, (o.holds).1))

-- the next number is won
pub won : (m : Machine) (i : ℕ) (r : Running) → WhenOpen (txns_of m i) (Matches r) → IsEnabled m (Decide i) → r.proposed ≡ length m.log + 1
    → Answers m (Decide i) (Decided (record { 0 = r.proposed }))
won m i r h enabled next = inl (
  enabled,
  when_map (Matches r) _ (txns_of m i) (λ t k. inl (sym k.proposed ∙ next, ap (λ n. Decided (record { 0 = n })) k.proposed)) h,
)

-- another number is lost to the transaction that has it
pub lost_to : (m : Machine) (i : ℕ) (r : Running) (other : ℕ) → WhenOpen (txns_of m i) (Matches r) → IsEnabled m (Decide i) → (r.proposed ≡ length m.log + 1 → ⊥)
    → slice_index m.log (r.proposed - 1) ≡ other
    → Answers m (Decide i) (Lost (record { cid = record { 0 = r.proposed }; other = record { 0 = other } }))
lost_to m i r other h enabled not_next is = inl (
  enabled,
  when_map (Matches r) _ (txns_of m i)
      (λ t k. inr (
        (λ next. not_next (k.proposed ∙ next)),
        rw (← is, k.proposed) refl,
      )) h,
)

module _ (drawn : ℕ) (commits : List Commit) (room : ℕ) (accounts : List (List Entry)) (i : ℕ) (account old d : List Entry) (event : Event)
    (commit : Commit) (r : Running) (kept : IsKept drawn commits room accounts)
    (is : account ≡ entry_of event (Decided (record { 0 = r.proposed })) ∷ old) (was : old ≡ get_or accounts i d) (form : event ≡ Decide i)
    (h : WhenOpen (txns_of (machine_of drawn commits accounts) i) (Matches r)) (enabled : IsEnabled (machine_of drawn commits accounts) (Decide i)) (next : r.proposed ≡ length commits + 1)
    (tid : commit.tid ≡ r.tid) (ord : commit.ord ≡ r.ord) (conn : commit.conn ≡ i)
    (writes : WhenOpen (txns old) (λ t. HaveSameWrites commit.writes.items t.write_set)) where
  abbrev m : Machine
  m = machine_of drawn commits accounts

  abbrev number : Outcome
  number = Decided (record { 0 = r.proposed })

  is_next : r.proposed ≡ length m.log + 1
  is_next = next ∙ ap (λ n. n + 1) (sym (length-map commits (λ (c : Commit). c.tid)))

  -- the entry is the new transaction's
  pub kept_won : (larger : ℕ) → room ≤ larger → IsKept drawn (commits ++ commit ∷ []) larger (slice_set accounts i account)
  kept_won larger more =
      let o = opened (txns_of m i) (Matches r) h in
      let within = in_range m i o.t o.rest o.is in
      let here : old ≡ account_of m i = account_is accounts i d old was within in
      let undecided : o.t.place ≡ 0 = (of_newest (txns_of m i) o.t o.rest (λ t. (t.proposed ≢ 0) × (t.place ≡ 0) × ((read : PartRead) → Among read t.reads → Includes t.checked read.part)) o.is enabled).1 in
      let new : Txn = record o.t { place = r.proposed } in
      let settles : Settles o.t new = record { decided = λ some. absurd (some undecided); short = λ short. short } in
      let written = of_newest (txns old) o.t o.rest _ (ap txns here ∙ o.is) writes in
      let logged = commits_changed (txns_of m) i o.t new o.rest 1 commits o.is settles (omega arith) kept.logged in
      let last : IsCommitOf (but (txns_of m) i (new ∷ o.rest)) (1 + length commits) commit = (
        new,
        subst (λ j. Among new (but (txns_of m) i (new ∷ o.rest) j)) (sym conn) (new_here (txns_of m) i new o.rest),
        omega (arith, next),
        sym (o.holds).id ∙ sym tid,
        sym (o.holds).ord ∙ sym ord,
        written,
      ) in
      let ids : m.log ++ o.t.id ∷ [] ≡ map (λ (c : Commit). c.tid) (commits ++ commit ∷ []) =
      ap (λ n. m.log ++ n ∷ []) (sym (o.holds).id ∙ sym tid) ∙ sym (map-append (λ (c : Commit). c.tid) commits (commit ∷ [])) in
      let longer : log_after number (txns_of m i) m.log ≡ map (λ (c : Commit). c.tid) (commits ++ commit ∷ []) =
      subst (λ ts. log_after number ts m.log ≡ map (λ (c : Commit). c.tid) (commits ++ commit ∷ [])) (sym o.is) ids in
      let entry = entry_is account old accounts i d event number number is was within refl in
      kept_entered drawn commits accounts i account event (Decide i) number entry form
      room larger drawn (commits ++ commit ∷ []) (new ∷ o.rest) kept (won m i r h enabled is_next) within
      (ap (λ (log : List ℕ). record (entered m i (Decide i) number) { log = log }) longer)
      (ap (newest_changed (after_decide number)) o.is)
      (commits_pushed (but (txns_of m) i (new ∷ o.rest)) 1 commits commit logged last)
      (short_changed drawn commits accounts i account event (Decide i) number entry form room o.t new o.rest kept o.is settles)
      kept.bounded (omega (arith, kept.roomy, more))
