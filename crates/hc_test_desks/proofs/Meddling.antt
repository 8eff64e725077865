-- What one connection does leaves what another one's events need.
use Rattle.std.proofs.Common.{◌≡◌, ◌≢◌, ⊎_elim, refl, sym, subst, ℕ, ◌<◌, ◌≤◌, true, false, None, List, [], ◌∷◌, length, get_or}
use Rattle.std.proofs.lemmas.Bool.{cases_lt}
use Rattle.std.proofs.lemmas.List.{set_past}
use Rattle.hc_core.specs.Account.{IsEventOf, Txn, WhenOpen, after_begin, after_check, after_decide, after_draw, after_end, after_event, after_put, after_read, after_propose, after_unput, newest_changed, part_of, txns}
use Rattle.hc_core.specs.Diary.{entry_of}
use Rattle.hc_core.specs.ListDesk.{IsLater, IsLaterDesk}
use Rattle.hc_core.specs.Machine.{Machine, after, account_of, entered, txns_of, unless_not_now}
use Rattle.hc_core.specs.declared.account.Entry.{Entry}
use Rattle.hc_core.specs.declared.event.Event.{Event}
use Rattle.hc_core.specs.declared.event.Event.TheVariants.{Begin, Draw, Read, Put, Propose, Check, Decide, Unput, End, Purge}
use Rattle.hc_core.specs.declared.outcome.Outcome.{Outcome}
use Rattle.hc_core.proofs.EventsAlone.{of_each}
use Rattle.hc_core.proofs.Others.{leaves_run}
use Rattle.hc_core.proofs.Steps.{txns_here}
use Rattle.hc_test_desks.specs.Meddled.{IsFree, IsMeddled}

-- a change after which what is a desk's was one before
abbrev Keeps : (Txn → Txn) → Type 0
Keeps f = (t : Txn) → (f t).ended ≡ false → (f t).weight ≢ None → (t.ended ≡ false) × (t.weight ≢ None)

-- the open transaction has room for writes, which only a desk makes
abbrev IsDesks : List Txn → Type 0
IsDesks ts = WhenOpen ts (λ t. t.weight ≢ None)

newest_keeps : (f : Txn → Txn) (ts : List Txn) → Keeps f → IsDesks (newest_changed f ts) → IsDesks ts
newest_keeps f [] keeps desks = desks
newest_keeps f (t ∷ ts) keeps desks = keeps t desks.0 desks.1

same : Keeps (λ t. t)
same t running weighed = (running, weighed)

-- no event makes a transaction a desk's
event_keeps : (event : Event) (outcome : Outcome) (ts : List Txn) → IsDesks (after_event event outcome ts) → IsDesks ts
event_keeps (Begin i) outcome ts =
    of_each (λ o. IsDesks (after_begin o ts) → IsDesks ts) (λ d. d) (λ n d. absurd (d.1 refl)) (λ n d. d) (λ p d. d) (λ m d. d) (λ n d. d) (λ l d. d) (λ n d. d) (λ d. d) outcome
event_keeps (Draw i ord) outcome ts =
    newest_keeps (after_draw ord outcome) ts (of_each (λ o. Keeps (after_draw ord o)) same (λ n. same) (λ n. same) (λ p. same) (λ m. same) (λ n. same) (λ l. same) (λ n. same) same outcome)
event_keeps (Read i from upto) outcome ts =
    newest_keeps (after_read (part_of from upto) outcome) ts
    (of_each (λ o. Keeps (after_read (part_of from upto) o)) same (λ n. same) (λ n. same) (λ p. same) (λ m. same) (λ n. same) (λ l. same) (λ n. same) same outcome)
event_keeps (Put i key rec) outcome ts =
    newest_keeps (after_put key rec outcome) ts (of_each (λ o. Keeps (after_put key rec o)) same (λ n. same) (λ n. same) (λ p. same) (λ m. same) (λ n. same) (λ l. same) (λ n. same) same outcome)
event_keeps (Propose i) outcome ts =
    newest_keeps (after_propose outcome) ts (of_each (λ o. Keeps (after_propose o)) same (λ n. same) (λ n. same) (λ p. same) (λ m. same) (λ n. same) (λ l. same) (λ n. same) same outcome)
event_keeps (Check i from upto) outcome ts =
    newest_keeps (after_check (part_of from upto) outcome) ts
    (of_each (λ o. Keeps (after_check (part_of from upto) o)) same (λ n. same) (λ n. same) (λ p. same) (λ m. same) (λ n. same) (λ l. same) (λ n. same) same outcome)
event_keeps (Decide i) outcome ts =
    newest_keeps (after_decide outcome) ts (of_each (λ o. Keeps (after_decide o)) same (λ n. same) (λ n. same) (λ p. same) (λ m. same) (λ n. same) (λ l. same) (λ n. same) same outcome)
event_keeps (Unput i key) outcome ts =
    newest_keeps (after_unput key outcome) ts (of_each (λ o. Keeps (after_unput key o)) same (λ n. same) (λ n. same) (λ p. same) (λ m. same) (λ n. same) (λ l. same) (λ n. same) same outcome)
event_keeps (End i) outcome ts =
    newest_keeps (after_end outcome) ts
    (of_each (λ o. Keeps (after_end o)) (λ t over. absurd (let e : true ≡ false = over in cc)) (λ n. same) (λ n. same) (λ p. same) (λ m. same) (λ n. same) (λ l. same) (λ n. same) same outcome)
event_keeps (Purge key) outcome ts = λ d. d

-- so events may come for a connection after an entry of its own
free_entered : (m : Machine) (i : ℕ) (event : Event) (outcome : Outcome) → IsFree m i → IsFree (entered m i event outcome) i
free_entered m i event outcome free d =
    ⊎_elim
    (λ (within : i < length m.accounts). free (event_keeps event outcome (txns_of m i) (subst IsDesks (txns_here m i (entry_of event outcome) within) d)))
    (λ (past : length m.accounts ≤ i). free (subst (λ (all : List (List Entry)). IsDesks (txns (get_or all i []))) (set_past m.accounts i (entry_of event outcome ∷ account_of m i) past) d))
    (cases_lt i (length m.accounts))

free_unless : (m now : Machine) (i : ℕ) (outcome : Outcome) → IsFree m i → IsFree now i → IsFree (unless_not_now outcome m now) i
free_unless m now i outcome before h =
    of_each (λ o. IsFree (unless_not_now o m now) i) h (λ n. h) (λ n. h) (λ p. h) (λ met. h) (λ n. h) (λ l. h) (λ n. h) before outcome

pub free_after : (m : Machine) (i : ℕ) (event : Event) (outcome : Outcome) → IsEventOf i event → IsFree m i → IsFree (after m event outcome) i
free_after m i (Begin k) outcome own free = subst (λ n. IsFree m n → IsFree (after m (Begin k) outcome) n) own (λ f. free_unless m _ k outcome f (free_entered m k (Begin k) outcome f)) free
free_after m i (Draw k ord) outcome own free = subst (λ n. IsFree m n → IsFree (after m (Draw k ord) outcome) n) own (λ f. free_unless m _ k outcome f (free_entered m k (Draw k ord) outcome f)) free
free_after m i (Read k from upto) outcome own free =
    subst (λ n. IsFree m n → IsFree (after m (Read k from upto) outcome) n) own (λ f. free_unless m _ k outcome f (free_entered m k (Read k from upto) outcome f)) free
free_after m i (Put k key rec) outcome own free =
    subst (λ n. IsFree m n → IsFree (after m (Put k key rec) outcome) n) own (λ f. free_unless m _ k outcome f (free_entered m k (Put k key rec) outcome f)) free
free_after m i (Propose k) outcome own free = subst (λ n. IsFree m n → IsFree (after m (Propose k) outcome) n) own (λ f. free_unless m _ k outcome f (free_entered m k (Propose k) outcome f)) free
free_after m i (Check k from upto) outcome own free =
    subst (λ n. IsFree m n → IsFree (after m (Check k from upto) outcome) n) own (λ f. free_unless m _ k outcome f (free_entered m k (Check k from upto) outcome f)) free
free_after m i (Decide k) outcome own free = subst (λ n. IsFree m n → IsFree (after m (Decide k) outcome) n) own (λ f. free_unless m _ k outcome f (free_entered m k (Decide k) outcome f)) free
free_after m i (Unput k key) outcome own free =
    subst (λ n. IsFree m n → IsFree (after m (Unput k key) outcome) n) own (λ f. free_unless m _ k outcome f (free_entered m k (Unput k key) outcome f)) free
free_after m i (End k) outcome own free = subst (λ n. IsFree m n → IsFree (after m (End k) outcome) n) own (λ f. free_unless m _ k outcome f (free_entered m k (End k) outcome f)) free
free_after m i (Purge key) outcome own free = absurd own

-- the account of another connection is as before
same_account : (i j : ℕ) (m now : Machine) → IsLater i m now → j ≢ i → account_of now j ≡ account_of m j
same_account i j m now later apart = (leaves_run i m now later.0 later.1 later.2).0 j apart

-- and events may come for it still
free_still : (i j : ℕ) (m now : Machine) → IsLater i m now → j ≢ i → IsFree m j → IsFree now j
free_still i j m now later apart free = subst (λ (account : List Entry). IsDesks (txns account) → ⊥) (sym (same_account i j m now later apart)) free

pub meddled_still : {N : Type 0} → (i k : ℕ) (name name_now : N) (m now : Machine) (other : ℕ) → IsLaterDesk i name m k name_now now → IsMeddled i m other → IsMeddled k now other
meddled_still i k name name_now m now other later h = subst (λ (conn : ℕ). IsMeddled conn now other) (sym later.0) (h.0, free_still i other m now later.2 h.0 h.1)
