-- A machine is sound after every run, from a new one and over any events.
use Rattle.std.proofs.Common.{◌≡◌, ◌≢◌, ◌⊎◌, inl, inr, ⊎_elim, refl, sym, subst, ℕ, ◌+◌, ◌-◌, ◌<◌, ◌≤◌, ◌^◌, true, List, [], ◌∷◌, ◌++◌, Option, Some, None, length, slice_index, arith}
use Rattle.hc_range.specs.Ranges.{Includes}
use Rattle.hc_base.specs.Lookup.{Among, but}
use Rattle.hc_core.specs.Account.{AreOf, IsEventOf, IsOf, KeyAsked, PartAsked, Txn, PartRead, WhenOpen, part_of, begun_at, HasWritten, IsIdle, after_reserve, weight_of, after_entry, after_event, newest_changed, without}
use Rattle.hc_core.specs.Diary.{entry_of}
use Rattle.hc_core.specs.Versions.{AreCellsAfter}
use Rattle.hc_core.specs.Machine.{Machine, start, txns_of, next_number, Answers, IsEnabled, IsAnswer, IsPutAnswer, IsCheckAnswer, IsDecideAnswer, after, after_step, entered, log_after, IsStep, Runs, with_entry}
use Rattle.hc_core.specs.Sound.{AreSound, IsSound, AreInOrder}
use Rattle.hc_core.specs.declared.account.Entry.{Entry}
use Rattle.hc_core.specs.declared.account.Entry.TheVariants.{Answered, Reserved, FoundFull}
use Rattle.std.proofs.lemmas.Bool.{cases_lt}
use Rattle.hc_core.specs.declared.cells.Cell.{Cell}
use Rattle.hc_core.specs.declared.event.Event.{Event}
use Rattle.hc_core.specs.declared.event.Event.TheVariants.{Begin, Draw, Read, Put, Propose, Check, Decide, Unput, End, Purge}
use Rattle.hc_core.specs.declared.outcome.Outcome.{Outcome}
use Rattle.hc_core.specs.declared.outcome.Outcome.TheVariants.{Done, Began, Drew, Cells, Met, Proposed, Lost, Decided, NotNow}
use Rattle.hc_base.proofs.Lookups.{each_grown, grown_here}
use Rattle.hc_core.proofs.Named.{names_in_the_way, names_found}
use Rattle.hc_core.proofs.Entered.{opened, of_newest, entered_sound, changed_sound, sound_logged, txns_of-start, account_of-start}
use Rattle.hc_core.proofs.Ordered.{newest_there, newest_sound}
use Rattle.hc_core.proofs.Kept.Begin.{kept_begin}
use Rattle.hc_core.proofs.Kept.Draw.{kept_draw}
use Rattle.hc_core.proofs.Kept.Read.{kept_read}
use Rattle.hc_core.proofs.Kept.Put.{kept_put}
use Rattle.hc_core.proofs.Kept.Refused.{kept_refused}
use Rattle.hc_core.proofs.Kept.Propose.{kept_propose}
use Rattle.hc_core.proofs.Kept.Check.{kept_check}
use Rattle.hc_core.proofs.Kept.Decide.{kept_decide}
use Rattle.hc_core.proofs.Kept.Lost.{kept_lost}
use Rattle.hc_core.proofs.Kept.Unput.{kept_unput}
use Rattle.hc_core.proofs.Kept.End.{kept_end}
use Rattle.hc_core.proofs.Kept.Noted.{kept_noted}

-- a new machine is sound
pub start_sound : (conns : ℕ) → IsSound (start conns)
start_sound conns = record {
  sound = record {
    distinct = λ c d c_below. absurd (omega (arith, c_below));
    entries = λ c below. absurd (omega (arith, below));
    decided = λ i t c there. absurd (none i t there);
    ids = λ i j t u there. absurd (none i t there);
    in_order = λ i. subst AreInOrder (sym (txns_of-start conns i)) tt;
    each = λ i t there. absurd (none i t there);
  };
  drawn = λ i t there. absurd (none i t there);
  each_drawn = λ id some within. absurd (omega (arith, some, within));
  entries = λ i. subst (AreOf i) (sym (account_of-start conns i)) tt;
}
  where
    none : (i : ℕ) (t : Txn) → Among t (txns_of (start conns) i) → ⊥
    none i t there = subst (Among t) (txns_of-start conns i) there

module _ (m : Machine) (s : IsSound m) where
  -- a sound machine is sound after a begin that is enabled
  begin_sound : (i : ℕ) → (i < length m.accounts) × IsIdle (txns_of m i) → IsSound (after m (Begin i) (Began (record { 0 = length m.log })))
  begin_sound i enabled =
      entered_sound m i (entry_of (Begin i) (Began (record { 0 = length m.log }))) m.drawn m.log (begun_at (length m.log) ∷ txns_of m i) enabled.0 refl s refl
      (kept_begin s.sound i enabled.1)
      (each_grown (txns_of m) i (begun_at (length m.log)) (λ j u. u.id ≤ m.drawn) (omega arith) s.drawn)
      (λ id some within. let e = s.each_drawn id some within in (e.0, e.1, grown_here (txns_of m) i (begun_at (length m.log)) e.0 e.1 e.2, e.3))

  -- and after a draw
  draw_sound : (i ord : ℕ) → IsEnabled m (Draw i ord) → IsSound (after m (Draw i ord) (Drew (record { 0 = m.drawn + 1 })))
  draw_sound i ord enabled =
      let o = opened (txns_of m i) (λ t. (t.id ≡ 0) × (0 < ord) × ((u : Txn) → Among u (txns_of m i) → u.ord < ord) × (m.drawn < 2 ^ 32 - 1)) enabled in
      changed_sound m i (entry_of (Draw i ord) (Drew (record { 0 = m.drawn + 1 }))) (m.drawn + 1) m.log o.t (record o.t { id = m.drawn + 1; ord = ord }) o.rest o.is refl s refl
      (kept_draw s.sound i o.t o.rest o.is (m.drawn + 1) ord o.holds.0 (λ none. omega (arith, none)) (λ j u there same. omega (arith, s.drawn j u there, same)) o.holds.2)
      (omega arith) (omega arith) (λ drew. absurd (drew o.holds.0))
      (λ id within. ⊎_elim (λ old. inl (omega (arith, old))) (λ new. inr (omega (arith, within, new))) (cases_lt id (m.drawn + 1)))

  -- an entry changes the open transaction and nothing else
  entry_changed : (i : ℕ) (entry : Entry) (t new : Txn) (rest : List Txn) → txns_of m i ≡ t ∷ rest → IsOf i entry → after_entry entry (t ∷ rest) ≡ new ∷ rest
      → AreSound (length m.log) (slice_index m.log) (but (txns_of m) i (new ∷ rest)) → new.id ≡ t.id → IsSound (with_entry m i entry)
  entry_changed i entry t new rest is own now sound same =
      changed_sound m i entry m.drawn m.log t new rest is own s now sound (omega arith) (rw same (s.drawn i t (newest_there s.sound i t rest is))) (λ drew. same) (λ id within. inl within)

  -- and so does an event with its answer
  one_changed : (i : ℕ) (event : Event) (outcome : Outcome) (t new : Txn) (rest : List Txn) → txns_of m i ≡ t ∷ rest → IsEventOf i event → after_event event outcome (t ∷ rest) ≡ new ∷ rest
      → AreSound (length m.log) (slice_index m.log) (but (txns_of m) i (new ∷ rest)) → new.id ≡ t.id → IsSound (entered m i event outcome)
  one_changed i event outcome = entry_changed i (entry_of event outcome)

  -- and after a read
  read_sound : (i : ℕ) (from : List ℕ) (upto : Option (List ℕ)) (outcome : Outcome) → IsEnabled m (Read i from upto) → IsAnswer m (Read i from upto) outcome → IsSound (after m (Read i from upto) outcome)
  read_sound i from upto outcome enabled answer =
      let o = opened (txns_of m i) (λ t. t.id ≡ 0) enabled in
      let a = of_newest (txns_of m i) o.t o.rest (λ t. (cells : List Cell) × AreCellsAfter (txns_of m) t.snapshot (part_of from upto) cells × (outcome ≡ Cells (record { cells = cells }))) o.is answer in
      subst (λ p. IsSound (after m (Read i from upto) p)) (sym a.2)
      (one_changed i (Read i from upto) (Cells (record { cells = a.0 })) o.t (record o.t { reads = record { part = part_of from upto; cells = a.0 } ∷ o.t.reads }) o.rest o.is refl refl
      (kept_read s.sound i o.t o.rest o.is (part_of from upto) a.0 o.holds a.1) refl)

  -- and after a put
  put_sound : (i : ℕ) (key : List ℕ) (rec : Option (List ℕ)) (outcome : Outcome) → IsEnabled m (Put i key rec) → IsAnswer m (Put i key rec) outcome → IsSound (after m (Put i key rec) outcome)
  put_sound i key rec outcome enabled answer =
      let o = opened (txns_of m i) (λ t. (t.id ≢ 0) × (t.place ≡ 0) × (t.proposed ≡ 0) × (HasWritten t key → ⊥)) enabled in
      ⊎_elim
      (λ r. subst (λ p. IsSound (after m (Put i key rec) p)) (sym r.5)
      (one_changed i (Put i key rec) (Met r.0) o.t (record o.t { refusals = record { asked = KeyAsked key; met = r.0 } ∷ o.t.refusals }) o.rest o.is refl refl
      (kept_refused s.sound i o.t o.rest o.is (record { asked = KeyAsked key; met = r.0 }) (names_in_the_way s.sound i o.t o.rest o.is o.holds.1 r.0 key r.1 r.2 r.3 r.4)) refl))
      (λ free. subst (λ p. IsSound (after m (Put i key rec) p)) (sym free.1)
      (one_changed i (Put i key rec) Done o.t (record o.t { write_set = record { key = key; rec = rec } ∷ o.t.write_set; puts = record { key = key; rec = rec } ∷ o.t.puts }) o.rest o.is refl refl
      (kept_put s.sound i o.t o.rest o.is key rec o.running o.holds.0 o.holds.1 o.holds.3 free.0) refl))
      (of_newest (txns_of m i) o.t o.rest (λ t. IsPutAnswer m i key t outcome) o.is answer)

  -- and after a proposal
  propose_sound : (i : ℕ) → IsEnabled m (Propose i) → IsSound (after m (Propose i) (Proposed (record { 0 = next_number m })))
  propose_sound i enabled =
      let o = opened (txns_of m i) (λ t. (t.id ≢ 0) × (t.place ≡ 0)) enabled in
      one_changed i (Propose i) (Proposed (record { 0 = next_number m })) o.t (record o.t { proposed = next_number m; checked = [] }) o.rest o.is refl refl
      (kept_propose s.sound i o.t o.rest o.is (next_number m) o.holds.0 o.holds.1 (omega arith)) refl

  -- and after a check
  check_sound : (i : ℕ) (from : List ℕ) (upto : Option (List ℕ)) (outcome : Outcome) → IsEnabled m (Check i from upto) → IsAnswer m (Check i from upto) outcome → IsSound (after m (Check i from upto) outcome)
  check_sound i from upto outcome enabled answer =
      let o = opened (txns_of m i) (λ t. t.proposed ≢ 0) enabled in
      ⊎_elim
      (λ r. subst (λ p. IsSound (after m (Check i from upto) p)) (sym r.6)
      (one_changed i (Check i from upto) (Met r.0) o.t (record o.t { refusals = record { asked = PartAsked (part_of from upto); met = r.0 } ∷ o.t.refusals }) o.rest o.is refl refl
      (kept_refused s.sound i o.t o.rest o.is (record { asked = PartAsked (part_of from upto); met = r.0 }) (names_found s.sound i o.t o.rest o.is r.0 (part_of from upto) r.1 r.2 r.3 r.4 r.5)) refl))
      (λ unchanged. subst (λ p. IsSound (after m (Check i from upto) p)) (sym unchanged.1)
      (one_changed i (Check i from upto) Done o.t (record o.t { checked = part_of from upto ∷ o.t.checked; unchanged = record { part = part_of from upto; number = o.t.proposed } ∷ o.t.unchanged }) o.rest o.is refl refl
      (kept_check s.sound i o.t o.rest o.is (part_of from upto) unchanged.0) refl))
      (of_newest (txns_of m i) o.t o.rest (λ t. IsCheckAnswer m (part_of from upto) t outcome) o.is answer)

  -- and after a decision
  decide_sound : (i : ℕ) (outcome : Outcome) → IsEnabled m (Decide i) → IsAnswer m (Decide i) outcome → IsSound (after m (Decide i) outcome)
  decide_sound i outcome enabled answer =
      let o = opened (txns_of m i) (λ t. (t.proposed ≢ 0) × (t.place ≡ 0) × ((read : PartRead) → Among read t.reads → Includes t.checked read.part)) enabled in
      ⊎_elim
      (λ won. subst (λ p. IsSound (after m (Decide i) p)) (sym won.1) (won_sound i o.t o.rest o.is o.holds.0 o.holds.1 o.holds.2 won.0))
      (λ lost. subst (λ p. IsSound (after m (Decide i) p)) (sym lost.1)
      (one_changed i (Decide i) (Lost (record { cid = record { 0 = o.t.proposed }; other = record { 0 = slice_index m.log (o.t.proposed - 1) } })) o.t (record o.t { proposed = 0; checked = [] }) o.rest o.is refl refl
      (kept_lost s.sound i o.t o.rest o.is o.holds.1) refl))
      (of_newest (txns_of m i) o.t o.rest (λ t. IsDecideAnswer m t outcome) o.is answer)
    where
      won_sound : (i : ℕ) (t : Txn) (rest : List Txn) → txns_of m i ≡ t ∷ rest → t.proposed ≢ 0 → t.place ≡ 0 → ((read : PartRead) → Among read t.reads → Includes t.checked read.part) → t.proposed ≡ next_number m
          → IsSound (after m (Decide i) (Decided (record { 0 = t.proposed })))
      won_sound i t rest is proposes undecided included next =
          subst (λ n. IsSound (after m (Decide i) (Decided (record { 0 = n })))) (sym next)
          (subst (λ ts. IsSound (record (entered m i (Decide i) (Decided (record { 0 = next_number m }))) { log = log_after (Decided (record { 0 = next_number m })) ts m.log })) (sym is)
          (changed_sound m i (entry_of (Decide i) (Decided (record { 0 = next_number m }))) m.drawn (m.log ++ t.id ∷ []) t (record t { place = next_number m }) rest is refl s refl
          (sound_logged m.log t.id (but (txns_of m) i (record t { place = next_number m } ∷ rest))
          (kept_decide s.sound i t rest is (λ none. proposes ((newest_sound s.sound i t rest is).numbers.undrawn none).1) undecided next included))
          (omega arith) (s.drawn i t (newest_there s.sound i t rest is)) (λ drew. refl) (λ id within. inl within)))

  -- and after a key is taken out
  unput_sound : (i : ℕ) (key : List ℕ) → IsEnabled m (Unput i key) → IsSound (after m (Unput i key) Done)
  unput_sound i key enabled =
      let o = opened (txns_of m i) (λ t. HasWritten t key × (t.place ≡ 0)) enabled in
      one_changed i (Unput i key) Done o.t (record o.t { write_set = without key o.t.write_set }) o.rest o.is refl refl
      (kept_unput s.sound i o.t o.rest o.is key o.holds.1) refl

  -- and after an end
  end_sound : (i : ℕ) → IsEnabled m (End i) → IsSound (after m (End i) Done)
  end_sound i enabled =
      let o = opened (txns_of m i) (λ t. (t.place ≢ 0) ⊎ (t.write_set ≡ [])) enabled in
      one_changed i (End i) Done o.t (record o.t { ended = true }) o.rest o.is refl refl
      (kept_end s.sound i o.t o.rest o.is o.holds) refl

  -- an event that is enabled keeps the machine sound
  enabled_sound : (event : Event) (outcome : Outcome) → IsEnabled m event → IsAnswer m event outcome → IsSound (after m event outcome)
  enabled_sound (Begin i) outcome enabled answer = subst (λ p. IsSound (after m (Begin i) p)) (sym answer) (begin_sound i enabled)
  enabled_sound (Draw i ord) outcome enabled answer = subst (λ p. IsSound (after m (Draw i ord) p)) (sym answer) (draw_sound i ord enabled)
  enabled_sound (Read i from upto) outcome enabled answer = read_sound i from upto outcome enabled answer
  enabled_sound (Put i key rec) outcome enabled answer = put_sound i key rec outcome enabled answer
  enabled_sound (Propose i) outcome enabled answer = subst (λ p. IsSound (after m (Propose i) p)) (sym answer) (propose_sound i enabled)
  enabled_sound (Check i from upto) outcome enabled answer = check_sound i from upto outcome enabled answer
  enabled_sound (Decide i) outcome enabled answer = decide_sound i outcome enabled answer
  enabled_sound (Unput i key) outcome enabled answer = subst (λ p. IsSound (after m (Unput i key) p)) (sym answer) (unput_sound i key enabled)
  enabled_sound (End i) outcome enabled answer = subst (λ p. IsSound (after m (End i) p)) (sym answer) (end_sound i enabled)
  enabled_sound (Purge key) outcome enabled answer = s

  -- an event that is not enabled changes nothing
  refused_sound : (event : Event) → IsSound (after m event NotNow)
  refused_sound (Begin i) = s
  refused_sound (Draw i ord) = s
  refused_sound (Read i from upto) = s
  refused_sound (Put i key rec) = s
  refused_sound (Propose i) = s
  refused_sound (Check i from upto) = s
  refused_sound (Decide i) = s
  refused_sound (Unput i key) = s
  refused_sound (End i) = s
  refused_sound (Purge key) = s

-- each event with its answer keeps the machine sound
pub sound_with : (m : Machine) (event : Event) (outcome : Outcome) → IsSound m → Answers m event outcome → IsSound (after m event outcome)
sound_with m event outcome s answers =
    ⊎_elim (λ is. enabled_sound m s event outcome is.0 is.1)
    (λ refused. subst (λ p. IsSound (after m event p)) (sym refused.1) (refused_sound m s event))
    answers

-- a note keeps it too
note_sound : (m : Machine) (i : ℕ) (entry : Entry) (f : Txn → Txn) (P : Txn → Type 0) → IsSound m → IsOf i entry → WhenOpen (txns_of m i) P
    → ((ts : List Txn) → after_entry entry ts ≡ newest_changed f ts) → ((t : Txn) (rest : List Txn) → txns_of m i ≡ t ∷ rest → AreSound (length m.log) (slice_index m.log) (but (txns_of m) i (f t ∷ rest)))
    → ((t : Txn) → (f t).id ≡ t.id) → IsSound (with_entry m i entry)
note_sound m i entry f P s own open_now as_change kept same =
    let o = opened (txns_of m i) P open_now in
    entry_changed m s i entry o.t (f o.t) o.rest o.is own (as_change (o.t ∷ o.rest)) (kept o.t o.rest o.is) (same o.t)

-- and so does each step
pub step_sound : (m : Machine) (step : Entry) → IsSound m → IsStep m step → IsSound (after_step m step)
step_sound m (Answered event outcome) s is = sound_with m event outcome s is
step_sound m (Reserved i writes) s is =
    note_sound m i (Reserved i writes) (after_reserve writes) (λ t. (t.id ≢ 0) × (t.weight ≡ None)) s refl is (λ ts. refl)
    (λ t rest at. kept_noted s.sound i t rest at writes (Some (weight_of writes)) t.full) (λ t. refl)
step_sound m (FoundFull i full) s is =
    note_sound m i (FoundFull i full) (λ t. record t { full = Some full }) (λ t. t.full ≡ None) s refl is (λ ts. refl)
    (λ t rest at. kept_noted s.sound i t rest at t.reserved t.weight (Some full)) (λ t. refl)

-- and each run
pub runs_sound : (m last : Machine) (steps : List Entry) → IsSound m → Runs m steps last → IsSound last
runs_sound m last [] s runs = subst IsSound runs s
runs_sound m last (step ∷ steps) s runs = runs_sound (after_step m step) last steps (step_sound m step s runs.0) runs.1

-- so it is sound after every run from a new machine
pub run_sound : (conns : ℕ) (steps : List Entry) (m : Machine) → Runs (start conns) steps m → IsSound m
run_sound conns steps m runs = runs_sound (start conns) m steps (start_sound conns) runs
