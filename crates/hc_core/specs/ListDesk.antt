-- The machine behind a desk: what a desk rests on, and what is later.
use Rattle.std.specs.Prelude.{◌≡◌, ◌≢◌, ℕ, ◌<◌, false, None, List, [], ◌∷◌, ◌++◌, length, refl}
use Rattle.std.proofs.Common.{◌∙◌, subst, sym}
use Rattle.hc_core.specs.Account.{AreOf, Txn}
use Rattle.hc_core.specs.Machine.{Machine, Runs, account_of, after_step, txns_of}
use Rattle.hc_core.specs.declared.account.Entry.{Entry}

-- where an open transaction has drawn an id, room was made for its writes: a desk drew it
abbrev pub HasRoomOnceDrawn : List Txn → Type 0
HasRoomOnceDrawn ts = (t : Txn) (rest : List Txn) → ts ≡ t ∷ rest → t.ended ≡ false → t.id ≢ 0 → t.weight ≢ None

-- what a desk for a connection rests on: it is there, and what is open is a desk's
abbrev pub Owns : Machine → ℕ → Type 0
Owns m i = (i < length m.accounts) × HasRoomOnceDrawn (txns_of m i)

-- a machine is later by steps of one connection
abbrev pub IsLater : ℕ → Machine → Machine → Type 0
IsLater i m now = (steps : List Entry) × AreOf i steps × Runs m steps now

-- what one connection does leaves the accounts of the others, and adds none
abbrev pub LeavesOthers : Type 0
LeavesOthers = (i : ℕ) (m now : Machine) → IsLater i m now
    → ((j : ℕ) → j ≢ i → account_of now j ≡ account_of m j) × (length now.accounts ≡ length m.accounts)

-- and so is a desk, which stays at its connection and its machine
abbrev pub IsLaterDesk : {N : Type 0} → ℕ → N → Machine → ℕ → N → Machine → Type 0
IsLaterDesk i name m j name_now now = (j ≡ i) × (name_now ≡ name) × IsLater i m now

pub later_refl : {N : Type 0} → (i : ℕ) (name : N) (m : Machine) → IsLaterDesk i name m i name m
later_refl i name m = (refl, refl, ([], tt, refl))

-- steps after steps
are_both : (i : ℕ) (one other : List Entry) → AreOf i one → AreOf i other → AreOf i (one ++ other)
are_both i [] other a b = b
are_both i (entry ∷ one) other a b = (a.0, are_both i one other a.1 b)

run_both : (m now last : Machine) (one other : List Entry) → Runs m one now → Runs now other last → Runs m (one ++ other) last
run_both m now last [] other a b = subst (λ n. Runs n other last) (sym a) b
run_both m now last (entry ∷ one) other a b = (a.0, run_both (after_step m entry) now last one other a.1 b)

pub later_trans : {N : Type 0} → (i j k : ℕ) (a b c : N) (m now last : Machine) → IsLaterDesk i a m j b now → IsLaterDesk j b now k c last
    → IsLaterDesk i a m k c last
later_trans i j k a b c m now last one other =
    let steps = one.2 in
    let rest = subst (λ n. IsLater n now last) one.0 other.2 in
    (other.0 ∙ one.0, other.1 ∙ one.1, (steps.0 ++ rest.0, are_both i steps.0 rest.0 steps.1 rest.1, run_both m now last steps.0 rest.0 steps.2 rest.2))
