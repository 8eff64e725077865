-- The write set: a write in front, and the writes but those of a key.
use Rattle.std.proofs.Common.{◌≡◌, ◌⊎◌, inl, inr, ⊎_elim, sym, ap, ℕ, Bool, true, false, cond, not, List, [], ◌∷◌, Option, filter, subst, bytes_eq}
use Rattle.hc_core.specs.declared.cells.Write.{Write}
use Rattle.hc_base.specs.Lookup.{Among}
use Rattle.hc_core.specs.Account.{Txn, HoldsKey, HasWritten, without}
use Rattle.hc_core.specs.Sound.{IsAbsent, HasEachOnce}

-- a key is in the write set of writes
abbrev pub IsWrittenIn : List ℕ → List Write → Type 0
IsWrittenIn key ws = (rec : Option (List ℕ)) × Among (record { key = key; rec = rec }) ws

-- a key in a write set with one more write in front is that write's, or is in the rest
pub written_front : (key : List ℕ) (rec : Option (List ℕ)) (ws : List Write) (other : List ℕ) → IsWrittenIn other (record { key = key; rec = rec } ∷ ws) → (other ≡ key) ⊎ IsWrittenIn other ws
written_front key rec ws other written =
    ⊎_elim (λ same. inl (ap (λ (w : Write). w.key) same)) (λ following. inr (written.0, following)) written.1

-- a key that is not in the write set is absent
pub absent : (key : List ℕ) (ws : List Write) → (IsWrittenIn key ws → ⊥) → IsAbsent key ws
absent key [] none = tt
absent key (w ∷ ws) none = (
  λ same. none (w.rec, inl (ap (λ (k : List ℕ). record { key = k; rec = w.rec }) (sym same))),
  absent key ws (λ written. none (written.0, inr written.1)),
)

-- what a filter leaves was there
pub among_filter : (test : Write → Bool) (x : Write) (ws : List Write) → Among x (filter test ws) → Among x ws
among_filter test x [] there = there
among_filter test x (w ∷ ws) there = by_test (test w) (λ following. among_filter test x ws following) there
  where
    by_test : (b : Bool) → (Among x (filter test ws) → Among x ws) → Among x (cond b (w ∷ filter test ws) (filter test ws)) → Among x (w ∷ ws)
    by_test true later there = ⊎_elim (λ same. inl same) (λ following. inr (later following)) there
    by_test false later there = inr (later there)

-- a key that is absent is absent from what a filter leaves
absent_filter : (test : Write → Bool) (key : List ℕ) (ws : List Write) → IsAbsent key ws → IsAbsent key (filter test ws)
absent_filter test key [] none = tt
absent_filter test key (w ∷ ws) none = by_test (test w) (absent_filter test key ws none.1)
  where
    by_test : (b : Bool) → IsAbsent key (filter test ws) → IsAbsent key (cond b (w ∷ filter test ws) (filter test ws))
    by_test true later = (none.0, later)
    by_test false later = later

-- where each key is written once, a filter leaves it so
pub once_filter : (test : Write → Bool) (ws : List Write) → HasEachOnce ws → HasEachOnce (filter test ws)
once_filter test [] once = tt
once_filter test (w ∷ ws) once = by_test (test w) (once_filter test ws once.1)
  where
    by_test : (b : Bool) → HasEachOnce (filter test ws) → HasEachOnce (cond b (w ∷ filter test ws) (filter test ws))
    by_test true later = (absent_filter test w.key ws once.0, later)
    by_test false later = later

-- what is written but for a key was before
pub among_without : (key : List ℕ) (x : Write) (ws : List Write) → Among x (without key ws) → Among x ws
among_without key x ws there = among_filter (λ w. not (bytes_eq w.key key)) x ws there

-- a key that is in the write set when another was taken out was in the write set before
pub written_without : (key : List ℕ) (ws : List Write) (other : List ℕ) → IsWrittenIn other (without key ws) → IsWrittenIn other ws
written_without key ws other written = (written.0, among_without key (record { key = other; rec = written.0 }) ws written.1)

-- where each key is written once, it is so when a key was taken out
pub once_without : (key : List ℕ) (ws : List Write) → HasEachOnce ws → HasEachOnce (without key ws)
once_without key ws once = once_filter (λ w. not (bytes_eq w.key key)) ws once

-- nothing is among no puts
pub nothing_put : (t : Txn) → t.puts ≡ [] → (key : List ℕ) → HoldsKey t.puts key → ⊥
nothing_put t none key put = subst (Among (record { key = key; rec = put.0 })) none put.1

-- nothing is among no writes
pub nothing_written : (t : Txn) → t.write_set ≡ [] → (key : List ℕ) → HasWritten t key → ⊥
nothing_written t none key written = subst (Among (record { key = key; rec = written.0 })) none written.1
