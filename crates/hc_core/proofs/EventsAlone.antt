-- Where events alone come, no open transaction is a desk's.
use Rattle.std.proofs.Common.{◌≡◌, ◌≢◌, ⊎_elim, refl, sym, subst, ℕ, ◌<◌, ◌≤◌, false, true, List, [], ◌∷◌, length, None, get_or, Result, Ok, Err, IfOk, OnErr}
use Rattle.std.proofs.lemmas.Bool.{cases_eq, cases_lt}
use Rattle.std.proofs.lemmas.List.{get_or-set_other, set_past}
use Rattle.hc_base.specs.declared.numbers.Cid.{Cid}
use Rattle.hc_base.specs.declared.numbers.Tid.{Tid}
use Rattle.hc_core.specs.Account.{Txn, WhenOpen, after_begin, after_check, after_decide, after_draw, after_end, after_event, after_put, after_read, after_propose, after_unput, newest_changed, part_of, txns}
use Rattle.hc_core.specs.Diary.{entry_of}
use Rattle.hc_core.specs.Kept.{DecidesOnKept, NoneIsDesks}
use Rattle.hc_core.specs.Machine.{Machine, after, account_of, entered, start, txns_of, unless_not_now}
use Rattle.hc_core.specs.declared.account.Entry.{Entry}
use Rattle.hc_core.specs.declared.cells.Part.{Part}
use Rattle.hc_core.specs.declared.event.Event.{Event}
use Rattle.hc_core.specs.declared.event.Event.TheVariants.{Begin, Draw, Read, Put, Propose, Check, Decide, Unput, End, Purge}
use Rattle.hc_core.specs.declared.outcome.Lost.{Lost as LostRecord}
use Rattle.hc_core.specs.declared.outcome.Met.{Met as MetRecord}
use Rattle.hc_core.specs.declared.outcome.Outcome.{Outcome}
use Rattle.hc_core.specs.declared.outcome.Outcome.TheVariants.{Done, Began, Drew, Cells, Met, Proposed, Lost, Decided, NotNow}
use Rattle.hc_core.proofs.Entered.{txns_of-start}
use Rattle.hc_core.proofs.Steps.{txns_here, when_map}

-- the open transaction has room for writes, which only a desk makes
abbrev IsDesks : List Txn → Type 0
IsDesks ts = WhenOpen ts (λ t. t.weight ≢ None)

-- a change after which what is a desk's was one before
abbrev Keeps : (Txn → Txn) → Type 0
Keeps f = (t : Txn) → (f t).ended ≡ false → (f t).weight ≢ None → (t.ended ≡ false) × (t.weight ≢ None)

newest_keeps : (f : Txn → Txn) (ts : List Txn) → Keeps f → IsDesks (newest_changed f ts) → IsDesks ts
newest_keeps f [] keeps desks = desks
newest_keeps f (t ∷ ts) keeps desks = keeps t desks.0 desks.1

-- a fact of outcomes, kind by kind
pub of_each : (P : Outcome → Type 0) → P Done → ((n : Cid) → P (Began n)) → ((n : Tid) → P (Drew n)) → ((p : Part) → P (Cells p)) → ((met : MetRecord) → P (Met met))
    → ((n : Cid) → P (Proposed n)) → ((lost : LostRecord) → P (Lost lost)) → ((n : Cid) → P (Decided n)) → P NotNow → (outcome : Outcome) → P outcome
of_each P done began drew cells met proposed lost decided not_now Done = done
of_each P done began drew cells met proposed lost decided not_now (Began n) = began n
of_each P done began drew cells met proposed lost decided not_now (Drew n) = drew n
of_each P done began drew cells met proposed lost decided not_now (Cells p) = cells p
of_each P done began drew cells met proposed lost decided not_now (Met m) = met m
of_each P done began drew cells met proposed lost decided not_now (Proposed n) = proposed n
of_each P done began drew cells met proposed lost decided not_now (Lost l) = lost l
of_each P done began drew cells met proposed lost decided not_now (Decided n) = decided n
of_each P done began drew cells met proposed lost decided not_now NotNow = not_now

-- no answer to an event makes room
same : Keeps (λ t. t)
same t running weighed = (running, weighed)

event_keeps : (event : Event) (outcome : Outcome) (ts : List Txn) → IsDesks (after_event event outcome ts) → IsDesks ts
event_keeps (Begin i) outcome ts =
    of_each (λ o. IsDesks (after_begin o ts) → IsDesks ts) (λ d. d) (λ n d. absurd (d.1 refl)) (λ n d. d) (λ p d. d) (λ m d. d) (λ n d. d) (λ l d. d) (λ n d. d) (λ d. d) outcome
event_keeps (Draw i ord) outcome ts =
    newest_keeps (after_draw ord outcome) ts (of_each (λ o. Keeps (after_draw ord o)) same (λ n. same) (λ n. same) (λ p. same) (λ m. same) (λ n. same) (λ l. same) (λ n. same) same outcome)
event_keeps (Read i from upto) outcome ts =
    newest_keeps (after_read (part_of from upto) outcome) ts
    (of_each (λ o. Keeps (after_read (part_of from upto) o)) same (λ n. same) (λ n. same) (λ p. same) (λ m. same) (λ n. same) (λ l. same) (λ n. same) same outcome)
event_keeps (Put i key rec) outcome ts =
    newest_keeps (after_put key rec outcome) ts (of_each (λ o. Keeps (after_put key rec o)) same (λ n. same) (λ n. same) (λ p. same) (λ m. same) (λ n. same) (λ l. same) (λ n. same) same outcome)
event_keeps (Propose i) outcome ts =
    newest_keeps (after_propose outcome) ts (of_each (λ o. Keeps (after_propose o)) same (λ n. same) (λ n. same) (λ p. same) (λ m. same) (λ n. same) (λ l. same) (λ n. same) same outcome)
event_keeps (Check i from upto) outcome ts =
    newest_keeps (after_check (part_of from upto) outcome) ts
    (of_each (λ o. Keeps (after_check (part_of from upto) o)) same (λ n. same) (λ n. same) (λ p. same) (λ m. same) (λ n. same) (λ l. same) (λ n. same) same outcome)
event_keeps (Decide i) outcome ts =
    newest_keeps (after_decide outcome) ts (of_each (λ o. Keeps (after_decide o)) same (λ n. same) (λ n. same) (λ p. same) (λ m. same) (λ n. same) (λ l. same) (λ n. same) same outcome)
event_keeps (Unput i key) outcome ts =
    newest_keeps (after_unput key outcome) ts (of_each (λ o. Keeps (after_unput key o)) same (λ n. same) (λ n. same) (λ p. same) (λ m. same) (λ n. same) (λ l. same) (λ n. same) same outcome)
event_keeps (End i) outcome ts =
    newest_keeps (after_end outcome) ts
    (of_each (λ o. Keeps (after_end o)) (λ t over. absurd (let e : true ≡ false = over in cc)) (λ n. same) (λ n. same) (λ p. same) (λ m. same) (λ n. same) (λ l. same) (λ n. same) same outcome)
event_keeps (Purge key) outcome ts = λ d. d

-- so none is a desk's after an entry, where none was before
module _ (m : Machine) (none : NoneIsDesks m) where
  none_entered : (i : ℕ) (event : Event) (outcome : Outcome) → NoneIsDesks (entered m i event outcome)
  none_entered i event outcome j =
      ⊎_elim
      (λ (within : i < length m.accounts). ⊎_elim
      (λ (here : i ≡ j). subst (λ k. IsDesks (txns_of (entered m i event outcome) k) → ⊥) here
      (λ d. none i (event_keeps event outcome (txns_of m i) (subst IsDesks (txns_here m i (entry_of event outcome) within) d))))
      (λ differ d. none j (subst (λ (a : List Entry). IsDesks (txns a)) (get_or-set_other m.accounts i j (entry_of event outcome ∷ account_of m i) [] (λ e. differ (sym e))) d))
      (cases_eq i j))
      (λ (past : length m.accounts ≤ i) d. none j (subst (λ (all : List (List Entry)). IsDesks (txns (get_or all j []))) (set_past m.accounts i (entry_of event outcome ∷ account_of m i) past) d))
      (cases_lt i (length m.accounts))

  none_unless : (outcome : Outcome) (now : Machine) → NoneIsDesks now → NoneIsDesks (unless_not_now outcome m now)
  none_unless outcome now h =
      of_each (λ o. NoneIsDesks (unless_not_now o m now)) h (λ n. h) (λ n. h) (λ p. h) (λ met. h) (λ n. h) (λ l. h) (λ n. h) none outcome

  -- after an event
  pub none_after : (event : Event) (outcome : Outcome) → NoneIsDesks (after m event outcome)
  none_after (Begin i) outcome = none_unless outcome (entered m i (Begin i) outcome) (none_entered i (Begin i) outcome)
  none_after (Draw i ord) outcome = none_unless outcome _ (none_entered i (Draw i ord) outcome)
  none_after (Read i from upto) outcome = none_unless outcome (entered m i (Read i from upto) outcome) (none_entered i (Read i from upto) outcome)
  none_after (Put i key rec) outcome = none_unless outcome (entered m i (Put i key rec) outcome) (none_entered i (Put i key rec) outcome)
  none_after (Propose i) outcome = none_unless outcome (entered m i (Propose i) outcome) (none_entered i (Propose i) outcome)
  none_after (Check i from upto) outcome = none_unless outcome (entered m i (Check i from upto) outcome) (none_entered i (Check i from upto) outcome)
  none_after (Decide i) outcome = none_unless outcome _ (none_entered i (Decide i) outcome)
  none_after (Unput i key) outcome = none_unless outcome (entered m i (Unput i key) outcome) (none_entered i (Unput i key) outcome)
  none_after (End i) outcome = none_unless outcome (entered m i (End i) outcome) (none_entered i (End i) outcome)
  none_after (Purge key) outcome = none

  -- and each decision is by checks that are kept
  pub decides_on_kept : (event : Event) → DecidesOnKept m event
  decides_on_kept (Decide i) = λ d. none i (when_map (λ t. (t.weight ≢ None) × (t.proposed ≢ 0)) (λ t. t.weight ≢ None) (txns_of m i) (λ t h. h.0) d)
  decides_on_kept (Begin i) = tt
  decides_on_kept (Draw i ord) = tt
  decides_on_kept (Read i from upto) = tt
  decides_on_kept (Put i key rec) = tt
  decides_on_kept (Propose i) = tt
  decides_on_kept (Check i from upto) = tt
  decides_on_kept (Unput i key) = tt
  decides_on_kept (End i) = tt
  decides_on_kept (Purge key) = tt

-- none is in a new machine
pub none_start : (conns : ℕ) → NoneIsDesks (start conns)
none_start conns i d = subst IsDesks (txns_of-start conns i) d

-- nor after an event that is answered, or finds no memory
pub none_answered : {E : Type 0} (m now : Machine) (event : Event) (r : Result Outcome E) → NoneIsDesks m → IfOk r (λ outcome. now ≡ after m event outcome) → OnErr r (now ≡ m)
    → NoneIsDesks now
none_answered m now event (Ok outcome) none is unchanged = subst NoneIsDesks (sym is) (none_after m none event outcome)
none_answered m now event (Err e) none is unchanged = subst NoneIsDesks (sym unchanged) none
