-- A machine with an entry in an account: its transactions are those before, with one connection's changed.
use Rattle.std.proofs.Common.{◌≡◌, ◌≢◌, ◌⊎◌, ◌∙◌, ⊎_elim, refl, sym, ap, subst, ℕ, ◌+◌, ◌<◌, ◌≤◌, false, List, [], ◌∷◌, ◌++◌, length, arith, replicate}
use Rattle.std.specs.Prelude.{slice_index}
use Rattle.std.proofs.lemmas.Bool.{cases_eq, cases_lt}
use Rattle.std.proofs.lemmas.List.{get_or-set_same, get_or-set_other, get_or_past, get_or-replicate, length-replicate, get_or_append_left, length-append}
use Rattle.std.proofs.Math.Seq.{get_or-append_seam}
use Rattle.hc_base.specs.Lookup.{Among, but}
use Rattle.hc_core.specs.Account.{AreOf, IsOf, Txn, WhenOpen, after_entry, txns}
use Rattle.hc_core.specs.Machine.{Machine, start, account_of, txns_of, with_entry}
use Rattle.hc_core.specs.Sound.{AreSound, IsSound}
use Rattle.hc_core.specs.declared.account.Entry.{Entry}
use Rattle.hc_base.proofs.Lookups.{but-is, each_but, each_either, each_old, new_here, others_here, rest_here}

-- an open transaction: the newest of its connection
pub record Open (ts : List Txn) (P : Txn → Type 0) : Type 0 where
  pub t : Txn
  pub rest : List Txn
  pub is : ts ≡ t ∷ rest
  pub running : t.ended ≡ false
  pub holds : P t

-- where a fact holds of the open transaction, the newest is that one
pub opened : (ts : List Txn) (P : Txn → Type 0) → WhenOpen ts P → Open ts P
opened [] P none = elim none [ ]
opened (t ∷ rest) P holds = record { t = t; rest = rest; is = refl; running = holds.0; holds = holds.1 }

-- what holds of an open transaction holds of the newest
pub of_newest : (ts : List Txn) (t : Txn) (rest : List Txn) (P : Txn → Type 0) → ts ≡ t ∷ rest → WhenOpen ts P → P t
of_newest ts t rest P is holds = (subst (λ us. WhenOpen us P) is holds).1

-- a connection with a transaction is in range
pub in_range : (m : Machine) (i : ℕ) (t : Txn) (rest : List Txn) → txns_of m i ≡ t ∷ rest → i < length m.accounts
in_range m i t rest is =
    ⊎_elim (λ below. below)
    (λ (past : length m.accounts ≤ i). absurd (let none : t ∷ rest ≡ [] = sym is ∙ ap txns (get_or_past m.accounts i [] past) in cc))
    (cases_lt i (length m.accounts))

-- the transactions after an entry
pub txns_of-entered : (m : Machine) (i : ℕ) (entry : Entry) → i < length m.accounts
    → txns_of (with_entry m i entry) ≡ but (txns_of m) i (after_entry entry (txns_of m i))
txns_of-entered m i entry within =
    λ d j. but-is (txns_of m) (txns_of (with_entry m i entry)) i (after_entry entry (txns_of m i))
    (ap txns (get_or-set_same m.accounts i (entry ∷ account_of m i) [] within))
    (λ j differ. ap txns (get_or-set_other m.accounts i j (entry ∷ account_of m i) [] (λ same. differ (sym same))))
    j d

-- each account has entries of its connection after an entry of the connection
entries_entered : (m : Machine) (i : ℕ) (entry : Entry) → i < length m.accounts → IsOf i entry → ((j : ℕ) → AreOf j (account_of m j))
    → (j : ℕ) → AreOf j (account_of (with_entry m i entry) j)
entries_entered m i entry within own entries j =
    ⊎_elim
    (λ (same : i ≡ j). subst (λ k. AreOf k (account_of (with_entry m i entry) k)) same
    (subst (AreOf i) (sym (get_or-set_same m.accounts i (entry ∷ account_of m i) [] within)) (own, entries i)))
    (λ differ. subst (AreOf j) (sym (get_or-set_other m.accounts i j (entry ∷ account_of m i) [] (λ same. differ (sym same)))) (entries j))
    (cases_eq i j)

-- each id is a transaction's where it was, or is the new one's
pub drawn_changed : (of : ℕ → List Txn) (i : ℕ) (t new : Txn) (rest : List Txn) (before now : ℕ) → of i ≡ t ∷ rest → (t.id ≢ 0 → new.id ≡ t.id)
    → ((id : ℕ) → id ≤ now → (id ≤ before) ⊎ (new.id ≡ id))
    → ((id : ℕ) → 0 < id → id ≤ before → (j : ℕ) × (u : Txn) × Among u (of j) × (u.id ≡ id))
    → (id : ℕ) → 0 < id → id ≤ now → (j : ℕ) × (u : Txn) × Among u (but of i (new ∷ rest) j) × (u.id ≡ id)
drawn_changed of i t new rest before now is keeps either each id some within =
    ⊎_elim
    (λ old. let e = each id some old in
    each_old of i t rest is (λ j u. u.id ≡ id → (k : ℕ) × (v : Txn) × Among v (but of i (new ∷ rest) k) × (v.id ≡ id))
    (λ has. (i, new, new_here of i new rest, keeps (λ none. omega (arith, none, has, some)) ∙ has))
    (λ u there has. (i, u, rest_here of i new rest u there, has))
    (λ j u differ there has. (j, u, others_here of i new rest j u differ there, has))
    e.0 e.1 e.2 e.3)
    (λ has. (i, new, new_here of i new rest, has))
    (either id within)

-- a machine with an entry is sound where the log and the transactions are
pub entered_sound : (m : Machine) (i : ℕ) (entry : Entry) (drawn : ℕ) (log : List ℕ) (now : List Txn) → i < length m.accounts → IsOf i entry → IsSound m
    → after_entry entry (txns_of m i) ≡ now → AreSound (length log) (slice_index log) (but (txns_of m) i now)
    → ((j : ℕ) (u : Txn) → Among u (but (txns_of m) i now j) → u.id ≤ drawn)
    → ((id : ℕ) → 0 < id → id ≤ drawn → (j : ℕ) × (u : Txn) × Among u (but (txns_of m) i now j) × (u.id ≡ id))
    → IsSound (record (with_entry m i entry) { drawn = drawn; log = log })
entered_sound m i entry drawn log now within own s is sound bound each =
    let same : txns_of (with_entry m i entry) ≡ but (txns_of m) i now = txns_of-entered m i entry within ∙ ap (but (txns_of m) i) is in
    record {
      sound = subst (AreSound (length log) (slice_index log)) (sym same) sound;
      drawn = λ j u there. bound j u (subst (λ (f : ℕ → List Txn). Among u (f j)) same there);
      each_drawn = λ id some within_drawn. let e = each id some within_drawn in
          (e.0, e.1, subst (λ (f : ℕ → List Txn). Among e.1 (f e.0)) (sym same) e.2, e.3);
      entries = entries_entered m i entry within own s.entries;
    }

-- likewise where the newest transaction changes
pub changed_sound : (m : Machine) (i : ℕ) (entry : Entry) (drawn : ℕ) (log : List ℕ) (t new : Txn) (rest : List Txn) → txns_of m i ≡ t ∷ rest → IsOf i entry → IsSound m
    → after_entry entry (t ∷ rest) ≡ new ∷ rest → AreSound (length log) (slice_index log) (but (txns_of m) i (new ∷ rest))
    → m.drawn ≤ drawn → new.id ≤ drawn → (t.id ≢ 0 → new.id ≡ t.id) → ((id : ℕ) → id ≤ drawn → (id ≤ m.drawn) ⊎ (new.id ≡ id))
    → IsSound (record (with_entry m i entry) { drawn = drawn; log = log })
changed_sound m i entry drawn log t new rest is own s now sound more bound keeps either =
    entered_sound m i entry drawn log (new ∷ rest) (in_range m i t rest is) own s (ap (after_entry entry) is ∙ now) sound
    (each_either (txns_of m) i t rest is new (λ j u. u.id ≤ drawn) bound (λ j u there. omega (arith, more, s.drawn j u there)))
    (drawn_changed (txns_of m) i t new rest m.drawn drawn is keeps either s.each_drawn)

-- logs that agree below the size are as good as one another
pub sound_log : (size : ℕ) (log other : ℕ → ℕ) (of : ℕ → List Txn) → ((c : ℕ) → c < size → log c ≡ other c) → AreSound size log of → AreSound size other of
sound_log size log other of agree s = record {
  distinct = λ c d c_below d_below same. s.distinct c d c_below d_below (agree c c_below ∙ (same ∙ sym (agree d d_below)));
  entries = s.entries;
  decided = λ i t c there at. sym (agree c (omega (arith, ((s.each i t there).numbers.place_within (λ none. omega (arith, none, at))).1, at))) ∙ s.decided i t c there at;
  ids = s.ids;
  in_order = s.in_order;
  each = s.each;
}

-- a log with one more id
pub sound_logged : (log : List ℕ) (id : ℕ) (of : ℕ → List Txn) → AreSound (length log + 1) (but (slice_index log) (length log) id) of
    → AreSound (length (log ++ id ∷ [])) (slice_index (log ++ id ∷ [])) of
sound_logged log id of s =
    subst (λ n. AreSound n (slice_index (log ++ id ∷ [])) of) (sym (length-append log (id ∷ [])))
    (sound_log (length log + 1) (but (slice_index log) (length log) id) (slice_index (log ++ id ∷ [])) of agree s)
  where
    agree : (c : ℕ) → c < length log + 1 → but (slice_index log) (length log) id c ≡ slice_index (log ++ id ∷ []) c
    agree c below =
        each_but (slice_index log) (length log) id (λ c x. c < length log + 1 → x ≡ slice_index (log ++ id ∷ []) c)
        (λ last. sym (get_or-append_seam log id [] 0))
        (λ c differ within. sym (get_or_append_left log (id ∷ []) 0 c (omega arith)))
        c below

-- no account of a new machine has a transaction
pub txns_of-start : (conns i : ℕ) → txns_of (start conns) i ≡ []
txns_of-start conns i =
    ap txns (⊎_elim (λ (within : i < conns). get_or-replicate conns i [] [] within) (λ (past : conns ≤ i). get_or_past (replicate conns []) i [] (rw length-replicate past)) (cases_lt i conns))

-- no account of a new machine has an entry
pub account_of-start : (conns i : ℕ) → account_of (start conns) i ≡ []
account_of-start conns i =
    ⊎_elim (λ (within : i < conns). get_or-replicate conns i [] [] within) (λ (past : conns ≤ i). get_or_past (replicate conns []) i [] (rw length-replicate past)) (cases_lt i conns)
