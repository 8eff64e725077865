-- Steps of one connection leave the accounts of the others.
use Rattle.std.proofs.Common.{◌≡◌, ◌≢◌, ◌∙◌, refl, subst, ℕ, List, [], ◌∷◌, length}
use Rattle.std.proofs.lemmas.List.{get_or-set_other, length-set}
use Rattle.hc_core.specs.Account.{AreOf, IsEventOf, IsOf}
use Rattle.hc_core.specs.Diary.{entry_of}
use Rattle.hc_core.specs.Machine.{Machine, Runs, account_of, after, after_step, unless_not_now, with_entry}
use Rattle.hc_core.specs.declared.account.Entry.{Entry}
use Rattle.hc_core.specs.declared.account.Entry.TheVariants.{Answered, FoundFull, Reserved}
use Rattle.hc_core.specs.declared.event.Event.{Event}
use Rattle.hc_core.specs.declared.event.Event.TheVariants.{Begin, Check, Decide, Draw, End, Propose, Purge, Put, Read, Unput}
use Rattle.hc_core.specs.declared.outcome.Outcome.{Outcome}
use Rattle.hc_core.proofs.EventsAlone.{of_each}

-- the other accounts are those before, and there are as many
abbrev Leaves : ℕ → Machine → Machine → Type 0
Leaves i m now = ((j : ℕ) → j ≢ i → account_of now j ≡ account_of m j) × (length now.accounts ≡ length m.accounts)

leaves_all : (i : ℕ) (m : Machine) → Leaves i m m
leaves_all i m = ((λ j differ. refl), refl)

leaves_entry : (i : ℕ) (m : Machine) (entry : Entry) → Leaves i m (with_entry m i entry)
leaves_entry i m entry = (
  (λ j differ. get_or-set_other m.accounts i j (entry ∷ account_of m i) [] differ),
  length-set m.accounts i (entry ∷ account_of m i),
)

leaves_both : (i : ℕ) (m now last : Machine) → Leaves i m now → Leaves i now last → Leaves i m last
leaves_both i m now last one other = ((λ j differ. other.0 j differ ∙ one.0 j differ), other.1 ∙ one.1)

leaves_unless : (i : ℕ) (m now : Machine) (outcome : Outcome) → Leaves i m now → Leaves i m (unless_not_now outcome m now)
leaves_unless i m now outcome h =
    of_each (λ o. Leaves i m (unless_not_now o m now)) h (λ n. h) (λ n. h) (λ p. h) (λ met. h) (λ n. h) (λ l. h) (λ n. h) (leaves_all i m) outcome

leaves_event : (i : ℕ) (m : Machine) (event : Event) (outcome : Outcome) → IsEventOf i event → Leaves i m (after m event outcome)
leaves_event i m (Begin k) outcome own = subst (λ n. Leaves n m (after m (Begin k) outcome)) own (leaves_unless k m _ outcome (leaves_entry k m (entry_of (Begin k) outcome)))
leaves_event i m (Draw k ord) outcome own = subst (λ n. Leaves n m (after m (Draw k ord) outcome)) own (leaves_unless k m _ outcome (leaves_entry k m (entry_of (Draw k ord) outcome)))
leaves_event i m (Read k from upto) outcome own =
    subst (λ n. Leaves n m (after m (Read k from upto) outcome)) own (leaves_unless k m _ outcome (leaves_entry k m (entry_of (Read k from upto) outcome)))
leaves_event i m (Put k key rec) outcome own =
    subst (λ n. Leaves n m (after m (Put k key rec) outcome)) own (leaves_unless k m _ outcome (leaves_entry k m (entry_of (Put k key rec) outcome)))
leaves_event i m (Propose k) outcome own = subst (λ n. Leaves n m (after m (Propose k) outcome)) own (leaves_unless k m _ outcome (leaves_entry k m (entry_of (Propose k) outcome)))
leaves_event i m (Check k from upto) outcome own =
    subst (λ n. Leaves n m (after m (Check k from upto) outcome)) own (leaves_unless k m _ outcome (leaves_entry k m (entry_of (Check k from upto) outcome)))
leaves_event i m (Decide k) outcome own = subst (λ n. Leaves n m (after m (Decide k) outcome)) own (leaves_unless k m _ outcome (leaves_entry k m (entry_of (Decide k) outcome)))
leaves_event i m (Unput k key) outcome own =
    subst (λ n. Leaves n m (after m (Unput k key) outcome)) own (leaves_unless k m _ outcome (leaves_entry k m (entry_of (Unput k key) outcome)))
leaves_event i m (End k) outcome own = subst (λ n. Leaves n m (after m (End k) outcome)) own (leaves_unless k m _ outcome (leaves_entry k m (entry_of (End k) outcome)))
leaves_event i m (Purge key) outcome own = absurd own

leaves_step : (i : ℕ) (m : Machine) (step : Entry) → IsOf i step → Leaves i m (after_step m step)
leaves_step i m (Answered event outcome) own = leaves_event i m event outcome own
leaves_step i m (Reserved k writes) own = subst (λ n. Leaves n m (with_entry m k (Reserved k writes))) own (leaves_entry k m (Reserved k writes))
leaves_step i m (FoundFull k full) own = subst (λ n. Leaves n m (with_entry m k (FoundFull k full))) own (leaves_entry k m (FoundFull k full))

-- and so do all steps of a run
pub leaves_run : (i : ℕ) (m now : Machine) (steps : List Entry) → AreOf i steps → Runs m steps now → Leaves i m now
leaves_run i m now [] own is = subst (Leaves i m) is (leaves_all i m)
leaves_run i m now (step ∷ steps) own runs =
    leaves_both i m (after_step m step) now (leaves_step i m step own.0) (leaves_run i (after_step m step) now steps own.1 runs.1)
